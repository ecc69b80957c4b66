use Rattle.std.proofs.Common.{◌∙◌, List, ap, rules}
use Rattle.host_core.specs.World.{World}
use Rattle.host_core.proofs.Counted.{no_fault_then}
use Rattle.host_core.proofs.Moments.{reads_then, silent_then}
use Rattle.status_records.specs.declared.record.Record.{Record}
use Rattle.trigger_interests.specs.Interests.{interests_of}
use Rattle.trigger_interests.specs.declared.interests.Interest.{Interest}
use Rattle.trigger_watch.specs.Activations.{activated, activations_by}
use Rattle.trigger_watch.specs.Touches.{touching_hits}
use Rattle.trigger_watch.specs.Watch.{installed}
use Rattle.trigger_watch.proofs.activating.activations.Goals as goal

pub returns-in-Ok : goal.returns-in-Ok
returns-in-Ok g c =
    let first = c.read_installed.ensures.looks in
    let then = c.activations_among.ensures.looks in
    let w = (g.H.Host.state c.args.host.now).world in
    let of = λ (u : World) (is : List Interest). activations_by (activated (touching_hits u c.args.lists.now.lists c.args.by_files c.args.watch.now.before.items is c.args.touches.now) is) in
    record {
      looks = record {
        found = λ honest. c.in-Ok.ensures.looks.found honest ∙ ap (λ (u : World). of u c.as_slice.result.now) first.reads.world ∙ ap (of w) (c.as_slice.ensures.value ∙ c.in_ok-interests.ensures.looks.found (then.reads.honest honest) ∙ ap (λ (rs : List Record). interests_of w (installed rs)) c.records.ensures);
        reads = reads_then _ _ _ first.reads then.reads;
        silent = silent_then _ _ _ first.silent then.silent;
        counts = no_fault_then _ _ _ c.in_ok-interests.ensures.looks.counts c.in-Ok.ensures.looks.counts;
      };
    }

pub returns : goal.returns
returns g c =
    let first = c.read_installed.ensures.looks in
    let then = c.activations_among.ensures.looks in
    record {
      looks = record {
        found = search rules;
        reads = reads_then _ _ _ first.reads then.reads;
        silent = silent_then _ _ _ first.silent then.silent;
        counts = search rules;
      };
    }
