use Rattle.std.proofs.Common.{◌≡◌, List, false, inl, subst, sym}
use Rattle.std.specs.Prelude.{IfErr, IsTrue, OnOk}
use Rattle.host_core.specs.declared.fault.HostFault.TheVariants.{NoMemory}
use Rattle.unit_reports.specs.Held.{held_by}
use Rattle.unit_reports.specs.declared.report.Unit.{Unit as AUnit}
use Rattle.trigger_turns.specs.Told.{HaveBeenTold}
use Rattle.trigger_turns.specs.Turns.{NotesThose, answered}
use Rattle.trigger_turns.proofs.Turned.{answered_open, blind_here, notes_those, told_same}
use Rattle.trigger_turns.proofs.Abandoned.{IsAbandonedFor, answered_abandoned, cut_off}
use Rattle.trigger_turns.proofs.asking.note_those.Goals as goal

pub returns-in-true-clause-noted : goal.returns-in-true-clause-noted
returns-in-true-clause-noted g c =
    let old = c.args.session.now in
    let new = c.note_changes.new.session in
    subst (λ r. NotesThose c.args.changes.items c.args.units.now.items c.note_changes.new.units.items (held_by old.administration old.diversions) (held_by new.administration new.diversions) (g.H.Host.state old.host) (g.H.Host.state new.host) r) (sym c.answered.ensures)
    (subst (λ (us : List AUnit). NotesThose c.args.changes.items us c.note_changes.new.units.items (held_by old.administration old.diversions) (held_by new.administration new.diversions) (g.H.Host.state old.host) (g.H.Host.state new.host) (answered c.note_changes.result)) c.has_room.ensures.same
    (notes_those c.args.changes.items _ _ _ _ _ _ c.note_changes.result c.note_changes.ensures.changed))

pub returns-in-true-clause-open : goal.returns-in-true-clause-open
returns-in-true-clause-open g c = subst (λ r. OnOk r (c.note_changes.new.session.closed ≡ false)) (sym c.answered.ensures) (answered_open c.note_changes.result _ c.note_changes.ensures.open)

pub returns-in-true-clause-watched : goal.returns-in-true-clause-watched
returns-in-true-clause-watched g c = subst (λ (us : List AUnit). HaveBeenTold g.W.Watcher.tells us c.note_changes.new.units.items c.args.watcher.now c.note_changes.new.watcher) c.has_room.ensures.same c.note_changes.ensures.watched

pub returns-in-false-clause-noted : goal.returns-in-false-clause-noted
returns-in-false-clause-noted g c = inl (blind_here _ _ _ c.unbegun.ensures, c.has_room.ensures.same)

pub returns-in-false-clause-watched : goal.returns-in-false-clause-watched
returns-in-false-clause-watched g c = told_same _ _ _ _ c.has_room.ensures.same

pub returns-in-true-clause-abandoned : goal.returns-in-true-clause-abandoned
returns-in-true-clause-abandoned g c = subst (λ r. IfErr r (IsAbandonedFor (IsTrue (g.W.Watcher.ends c.note_changes.new.watcher)))) (sym c.answered.ensures) (answered_abandoned (IsTrue (g.W.Watcher.ends c.note_changes.new.watcher)) c.note_changes.result c.note_changes.ensures.abandoned)

pub returns-in-false-clause-abandoned : goal.returns-in-false-clause-abandoned
returns-in-false-clause-abandoned g c = cut_off _ NoMemory c.unbegun.result c.unbegun.ensures
