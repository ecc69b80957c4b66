use Rattle.std.proofs.Common.{◌∙◌, ap, rules}
use Rattle.host_core.proofs.Moments.{reads_then, silent_then}
use Rattle.std.specs.BTreeSet.{contains_text}
use Rattle.configure_run.specs.Starting.{is_silent}
use Rattle.configure_run.proofs.Names.{waits_by}
use Rattle.configure_run.proofs.Silence.{silent_more}
use Rattle.configure_run.proofs.starting.silent_of.Goals as goal
use Rattle.host_core.proofs.Counted.{no_fault_then}

pub returns-in_err-is_silent_at : goal.returns-in_err-is_silent_at
returns-in_err-is_silent_at g c = record {
  looks = record {
    found = search rules;
    reads = reads_then _ _ _ c.loop-entry.invariant.reads c.is_silent_at.ensures.looks.reads;
    silent = search rules;
    counts = search rules;
  };
}

pub returns-in_err-push : goal.returns-in_err-push
returns-in_err-push g c = record {
  looks = record {
    found = search rules;
    reads = reads_then _ _ _ c.loop-entry.invariant.reads c.is_silent_at.ensures.looks.reads;
    silent = search rules;
    counts = search rules;
  };
}

pub loop-entry-preserved : goal.loop-entry-preserved
loop-entry-preserved g c =
    let inv = c.loop-entry.invariant in
    let entry = c.entry-item.result in
    record {
      so_far = λ honest. silent_more (g.H.Host.state c.args.host.now).world c.args.names.now c.args.records.now c.loop-entry.entry-index entry c.loop-entry.set.items c.push.new.self.items c.in_ok-is_silent_at.field-0 c.entry-item.is
          (inv.so_far (c.is_silent_at.ensures.looks.reads.honest honest))
          (λ wait. c.in_ok-is_silent_at.ensures.looks.found honest (waits_by c.args.names.now (contains_text c.in_ok-named.named) entry c.in_ok-named.ensures ∙ wait) ∙ ap (λ w. is_silent w entry.name) inv.reads.world) (search rules);
      reads = reads_then _ _ _ inv.reads c.is_silent_at.ensures.looks.reads;
      silent = silent_then _ _ _ inv.silent c.is_silent_at.ensures.looks.silent;
      faults_same = no_fault_then _ _ _ inv.faults_same c.in_ok-is_silent_at.ensures.looks.counts;
    }
