use Rattle.std.proofs.Common.{◌≡◌, ◌∙◌, ◌+◌, ◌≤◌, List, arith, length, subst, sym}
use Rattle.record_changes.specs.declared.change.RecordChange.{RecordChange}
use Rattle.unit_reports.specs.Held.{held_by}
use Rattle.trigger_turns.specs.Turns.{AddsReport, HasChanged, IsSingle, IsWay}
use Rattle.trigger_turns.proofs.Turned.{turn_given_up}
use Rattle.trigger_turns.proofs.turns.take_turn.Goals as goal

pub note_changes-requires-clause-room : goal.note_changes-requires-clause-room
note_changes-requires-clause-room g c =
    let one : length c.in-GiveUp.changes.items ≡ 1 = subst IsSingle c.in-GiveUp.is c.requires.one in
    let room = c.requires.room in
    omega (arith, one, room)

pub process_one-requires-clause-one : goal.process_one-requires-clause-one
process_one-requires-clause-one g c = subst IsSingle c.in-Process.is c.requires.one

pub returns-in-GiveUp-clause-turned : goal.returns-in-GiveUp-clause-turned
returns-in-GiveUp-clause-turned g c = λ name wishes first way left.
    let old = c.args.session.now in
    let new = c.note_changes.new.session in
    let is = subst (IsWay name wishes) c.in-GiveUp.is way in
    turn_given_up name wishes _ _ _ _ _ _ _ _ c.note_changes.result is.0 first is.1 left
    (subst (λ (changes : List RecordChange). AddsReport (λ done. HasChanged changes done (held_by old.administration old.diversions) (held_by new.administration new.diversions) (g.H.Host.state old.host) (g.H.Host.state new.host)) c.args.units.now.items c.note_changes.new.units.items c.note_changes.result) is.2 c.note_changes.ensures.changed)

pub returns-in-Process-clause-turned : goal.returns-in-Process-clause-turned
returns-in-Process-clause-turned g c = λ name wishes first way left.
    let is = subst (IsWay name wishes) c.in-Process.is way in
    c.process_one.ensures.turned name wishes (record { first = first; straight = is.0 }) is.1 is.2 left
