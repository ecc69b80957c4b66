use Rattle.std.proofs.Common.{List, subst}
use Rattle.host_core.specs.declared.fault.HostFault.TheVariants.{NoMemory}
use Rattle.unit_reports.specs.Held.{held_by}
use Rattle.unit_reports.specs.declared.report.Unit.{Unit as AUnit}
use Rattle.trigger_turns.specs.Told.{HaveBeenTold}
use Rattle.trigger_turns.specs.Turns.{RunsTurn}
use Rattle.trigger_turns.proofs.Turned.{told_same, turn_unbegun}
use Rattle.trigger_turns.proofs.Abandoned.{cut_off}
use Rattle.trigger_turns.proofs.turns.run_turn.Goals as goal

pub returns-in-true-clause-turned : goal.returns-in-true-clause-turned
returns-in-true-clause-turned g c =
    let old = c.args.session.now in
    let new = c.run_next.new.session in
    subst (λ (us : List AUnit). RunsTurn c.args.left.now.wishes.items c.args.left.now.takes c.run_next.new.left.wishes.items c.run_next.new.left.takes us c.run_next.new.units.items (held_by old.administration old.diversions) (held_by new.administration new.diversions) (g.H.Host.state old.host) (g.H.Host.state new.host) c.run_next.result)
    c.has_room.ensures.same c.run_next.ensures.turned

pub returns-in-true-clause-watched : goal.returns-in-true-clause-watched
returns-in-true-clause-watched g c = subst (λ (us : List AUnit). HaveBeenTold g.W.Watcher.tells us c.run_next.new.units.items c.args.watcher.now c.run_next.new.watcher) c.has_room.ensures.same c.run_next.ensures.watched

pub returns-in-false-clause-turned : goal.returns-in-false-clause-turned
returns-in-false-clause-turned g c = turn_unbegun _ _ _ _ _ _ c.args.left.now.wishes.items c.args.left.now.takes c.unbegun.result c.has_room.ensures.same c.unbegun.ensures

pub returns-in-false-clause-watched : goal.returns-in-false-clause-watched
returns-in-false-clause-watched g c = told_same _ _ _ _ c.has_room.ensures.same

pub returns-in-false-clause-abandoned : goal.returns-in-false-clause-abandoned
returns-in-false-clause-abandoned g c = cut_off _ NoMemory c.unbegun.result c.unbegun.ensures
