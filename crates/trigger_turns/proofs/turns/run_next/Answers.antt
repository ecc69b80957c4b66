use Rattle.std.proofs.Common.{◌≡◌, List, Global, None, Option, Vec, [], false, refl, subst, sym}
use Rattle.std.specs.Prelude.{IfErr, IsTrue, MatchOption, OnOk}
use Rattle.trigger_chains.specs.Wishes.{first_package}
use Rattle.trigger_chains.specs.declared.wishes.Wish.{Wish}
use Rattle.host_core.specs.declared.fault.HostFault.TheVariants.{NoMemory}
use Rattle.unit_reports.specs.Held.{held_by}
use Rattle.trigger_turns.specs.Turns.{IsPrepared, RunsTurn}
use Rattle.trigger_turns.specs.declared.wishing.Prepared.{Prepared}
use Rattle.trigger_turns.proofs.Turned.{answered_open, prepared_of, runs_turn, told_same, turn_unbegun, unprepared_of, way_single}
use Rattle.trigger_turns.proofs.Abandoned.{IsAbandonedFor, answered_abandoned, cut_off}
use Rattle.trigger_turns.proofs.turns.run_next.Goals as goal

pub take_turn-requires-clause-one : goal.take_turn-requires-clause-one
take_turn-requires-clause-one g c = let p = prepared_of c.replace-wishes.result.items c.in-Ok-Some.field-0 c.in-Ok-Some.next c.in-Ok-Some.field-0-is c.in-Ok-Some.ensures in way_single p.name _ _ p.way

pub returns-in-Ok-Some-clause-turned : goal.returns-in-Ok-Some-clause-turned
returns-in-Ok-Some-clause-turned g c =
    let old = c.args.session.now in
    let new = c.take_turn.new.session in
    let wishes = c.replace-wishes.result.items in
    let p = prepared_of wishes c.in-Ok-Some.field-0 c.in-Ok-Some.next c.in-Ok-Some.field-0-is c.in-Ok-Some.ensures in
    subst (λ (v : Vec Wish Global). RunsTurn v.items c.args.left.now.takes c.take_turn.new.left.wishes.items c.take_turn.new.left.takes c.args.units.now.items c.take_turn.new.units.items (held_by old.administration old.diversions) (held_by new.administration new.diversions) (g.H.Host.state old.host) (g.H.Host.state new.host) c.answered.result)
    c.replace-wishes.ensures.value
    (subst (λ r. RunsTurn wishes c.args.left.now.takes c.take_turn.new.left.wishes.items c.take_turn.new.left.takes c.args.units.now.items c.take_turn.new.units.items (held_by old.administration old.diversions) (held_by new.administration new.diversions) (g.H.Host.state old.host) (g.H.Host.state new.host) r)
    (sym c.answered.ensures) (runs_turn _ _ _ _ _ _ _ _ _ _ c.take_turn.result (c.take_turn.ensures.turned p.name wishes p.first p.way p.others)))

pub returns-in-Ok-Some-clause-open : goal.returns-in-Ok-Some-clause-open
returns-in-Ok-Some-clause-open g c = subst (λ r. OnOk r (c.take_turn.new.session.closed ≡ false)) (sym c.answered.ensures) (answered_open c.take_turn.result _ c.take_turn.ensures.open)

pub returns-in-Ok-None-clause-turned : goal.returns-in-Ok-None-clause-turned
returns-in-Ok-None-clause-turned g c =
    (subst (λ (v : Vec Wish Global). first_package v.items ≡ None) c.replace-wishes.ensures.value (unprepared_of c.replace-wishes.result.items c.in-Ok-None.field-0 c.in-Ok-None.field-0-is c.in-Ok-None.ensures), refl, refl, refl)

pub returns-in-Ok-None-clause-watched : goal.returns-in-Ok-None-clause-watched
returns-in-Ok-None-clause-watched g c = told_same _ _ _ _ refl

pub returns-in-Err-clause-turned : goal.returns-in-Err-clause-turned
returns-in-Err-clause-turned g c = turn_unbegun _ _ _ _ _ _ [] false c.unbegun.result refl c.unbegun.ensures

pub returns-in-Err-clause-watched : goal.returns-in-Err-clause-watched
returns-in-Err-clause-watched g c = told_same _ _ _ _ refl

pub returns-in-Ok-Some-clause-abandoned : goal.returns-in-Ok-Some-clause-abandoned
returns-in-Ok-Some-clause-abandoned g c = subst (λ r. IfErr r (IsAbandonedFor (IsTrue (g.W.Watcher.ends c.take_turn.new.watcher)))) (sym c.answered.ensures) (answered_abandoned (IsTrue (g.W.Watcher.ends c.take_turn.new.watcher)) c.take_turn.result c.take_turn.ensures.abandoned)

pub returns-in-Err-clause-abandoned : goal.returns-in-Err-clause-abandoned
returns-in-Err-clause-abandoned g c = cut_off _ NoMemory c.unbegun.result c.unbegun.ensures
