use Rattle.std.proofs.Common.{◌∙◌, subst}
use Rattle.trigger_watch.specs.declared.watching.TriggerWatch.{TriggerWatch}
use Rattle.unit_reports.specs.Held.{Held, held_by}
use Rattle.command_line.specs.Triggering.{HasForeseen}
use Rattle.trigger_turns.proofs.Steps.{held_same}
use Rattle.trigger_turns.proofs.Steps.{counts_then}
use Rattle.command_line.proofs.Begun.{counts_as, writes_none, writes_then}
use Rattle.command_line.proofs.triggering.begin.Goals as goal

pub returns-in-Ok-foresee-clause-begun : goal.returns-in-Ok-foresee-clause-begun
returns-in-Ok-foresee-clause-begun g c =
    let seen = g.H.Host.state c.watch_triggers.new.self.host in
    let begun = g.H.Host.state c.foresee.new.session.host in
    record {
      seen = seen;
      watched = c.in-Ok.ensures.looks c.requires;
      foreseen = subst (λ (h : Held). HasForeseen c.in-Ok-foresee.found.items h seen begun) (held_same held_by _ _ _ _ c.in-Ok.ensures.held c.in-Ok.ensures.diversions) c.in-Ok-foresee.ensures.foreseen;
    }

pub returns-in-Ok-foresee-clause-held : goal.returns-in-Ok-foresee-clause-held
returns-in-Ok-foresee-clause-held g c = c.foresee.ensures.held ∙ held_same held_by _ _ _ _ c.in-Ok.ensures.held c.in-Ok.ensures.diversions

pub returns-in-Err-foresee-clause-unbegun : goal.returns-in-Err-foresee-clause-unbegun
returns-in-Err-foresee-clause-unbegun g c =
    let look = c.in-Ok.ensures.looks c.requires in
    (writes_then _ _ _ look.reads look.silent c.in-Err-foresee.ensures.unforeseen.0, counts_then _ _ _ c.in-Err-foresee.fault look.counts c.in-Err-foresee.ensures.unforeseen.1)

pub returns-in-Err-foresee-clause-held : goal.returns-in-Err-foresee-clause-held
returns-in-Err-foresee-clause-held g c = c.foresee.ensures.held ∙ held_same held_by _ _ _ _ c.in-Ok.ensures.held c.in-Ok.ensures.diversions

pub returns-in-Err-clause-unbegun : goal.returns-in-Err-clause-unbegun
returns-in-Err-clause-unbegun g c =
    let look = c.in-Err.ensures.looks c.requires in
    (writes_none _ _ look.reads look.silent, counts_as TriggerWatch _ _ c.in-Err.fault look.counts)

pub returns-in-Err-clause-held : goal.returns-in-Err-clause-held
returns-in-Err-clause-held g c = held_same held_by _ _ _ _ c.in-Err.ensures.held c.in-Err.ensures.diversions
