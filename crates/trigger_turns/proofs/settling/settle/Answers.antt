use Rattle.std.proofs.Common.{◌≡◌, Ok, Err, List, Result, Bool, true, false, refl, subst}
use Rattle.unit_reports.specs.Held.{held_by}
use Rattle.record_changes.specs.Awaits.{settled_awaits}
use Rattle.unit_reports.specs.declared.report.Unit.{Unit as AUnit}
use Rattle.trigger_turns.specs.Turns.{NotesThose}
use Rattle.trigger_turns.proofs.Settled.{settled_ok, settled_err}
use Rattle.trigger_turns.proofs.settling.settle.Goals as goal

pub returns-in-Ok-clause-settled : goal.returns-in-Ok-clause-settled
returns-in-Ok-clause-settled g c =
    let old = c.args.session.now in
    let new = c.note_settled.new.session in
    settled_ok _ _ _ (held_by old.administration old.diversions) (held_by new.administration new.diversions) (g.H.Host.state old.host) (g.H.Host.state new.host) c.note_settled.result _ c.in-Ok.is c.note_settled.ensures.noted refl refl

pub returns-in-Err-clause-settled : goal.returns-in-Err-clause-settled
returns-in-Err-clause-settled g c =
    let old = c.args.session.now in
    let new = c.note_settled.new.session in
    settled_err _ _ _ (held_by old.administration old.diversions) (held_by new.administration new.diversions) (g.H.Host.state old.host) (g.H.Host.state new.host) c.note_settled.result c.in-Err.unit c.in-Err.is c.note_settled.ensures.noted refl refl
