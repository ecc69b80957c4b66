use Rattle.std.proofs.Common.{rules, ◌≡◌, ◌∙◌, List, ℕ, ap, refl, subst}
use Rattle.host_core.specs.World.{World}
use Rattle.host_core.proofs.Counted.{no_fault_then}
use Rattle.host_core.proofs.Moments.{reads_then, silent_then}
use Rattle.trigger_interests.specs.declared.interests.Interest.{Interest}
use Rattle.trigger_files.specs.Steps.{AreUnsettled, open_of}
use Rattle.trigger_files.proofs.registering.read_names.Goals as goal

pub returns-in_err-free-clause-looks : goal.returns-in_err-free-clause-looks
returns-in_err-free-clause-looks g c = record {
  found = search rules;
  reads = reads_then _ _ _ c.read_unsettled.ensures.looks.reads c.read_open.ensures.looks.reads;
  silent = silent_then _ _ _ c.read_unsettled.ensures.looks.silent c.read_open.ensures.looks.silent;
  counts = search rules;
}

pub returns-clause-looks : goal.returns-clause-looks
returns-clause-looks g c =
    let first = c.read_unsettled.ensures.looks in
    let then = c.read_open.ensures.looks in
    let old = (g.H.Host.state c.args.host.now).world in
    record {
      found = λ h. record {
        entries_same = refl;
        due = subst (λ (es : List Interest). AreUnsettled es old c.in_ok-due.due.items) c.as_slice.ensures.value (c.in_ok-due.ensures.looks.found (then.reads.honest h));
        free_same = c.in_ok-free.ensures.looks.found h ∙ ap (λ (w : World). open_of w c.as_slice-2.result.now) first.reads.world ∙ ap (λ (l : List (List ℕ)). open_of old l) c.as_slice-2.ensures.value;
      };
      reads = reads_then _ _ _ first.reads then.reads;
      silent = silent_then _ _ _ first.silent then.silent;
      counts = no_fault_then _ _ _ c.in_ok-due.ensures.looks.counts c.in_ok-free.ensures.looks.counts;
    }
