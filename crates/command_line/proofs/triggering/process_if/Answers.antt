use Rattle.std.proofs.Common.{Bool, subst, sym}
use Rattle.unit_reports.specs.Held.{held_by}
use Rattle.trigger_turns.proofs.Steps.{turns_none}
use Rattle.command_line.specs.Triggering.{HasProcessedIf}
use Rattle.command_line.proofs.triggering.process_if.Goals as goal

pub returns-in-true-clause-processed : goal.returns-in-true-clause-processed
returns-in-true-clause-processed g c = λ order is.
    let old = c.args.session.now in
    let new = c.process_pending.new.session in
    subst (λ (b : Bool). HasProcessedIf b order c.args.takes c.process_pending.result (held_by old.administration old.diversions) (held_by new.administration new.diversions) (g.H.Host.state old.host) (g.H.Host.state new.host)) (sym c.in-true.is)
    (c.process_pending.ensures.processed order is)

pub returns-in-false-clause-watched : goal.returns-in-false-clause-watched
returns-in-false-clause-watched g c = turns_none _ _ _ c.idle.ensures.units
