use Rattle.std.proofs.Common.{[], None, Some, append-nil, refl, sym}
use Rattle.unit_reports.specs.Held.{held_by}
use Rattle.trigger_turns.specs.Turns.{IsAsked, IsBrokenBehind}
use Rattle.trigger_turns.proofs.Turned.{asked_noted, blind_as, looks_shown_as, told_same}
use Rattle.trigger_turns.proofs.Abandoned.{cut_off}
use Rattle.trigger_turns.proofs.asking.note_asked.Goals as goal

pub returns-in-Ok-Some-clause-noted : goal.returns-in-Ok-Some-clause-noted
returns-in-Ok-Some-clause-noted g c =
    let records = c.args.session.now.administration.database.records in
    asked_noted c.in-Ok-Some.changes.items _ _ _ _ _ _ _ _ c.note_those.result c.in-Ok-Some.ensures.held
    (looks_shown_as (λ v. v.items) records c.in-Ok-Some.field-0 (Some c.in-Ok-Some.changes) _ _ c.in-Ok-Some.field-0-is c.in-Ok-Some.ensures.looks) c.note_those.ensures.noted

pub returns-in-Ok-None-clause-noted : goal.returns-in-Ok-None-clause-noted
returns-in-Ok-None-clause-noted g c =
    let records = c.args.session.now.administration.database.records in
    (looks_shown_as (λ v. v.items) records c.in-Ok-None.field-0 None _ _ c.in-Ok-None.field-0-is c.in-Ok-None.ensures.looks, c.in-Ok-None.ensures.held, refl)

pub returns-in-Ok-None-clause-watched : goal.returns-in-Ok-None-clause-watched
returns-in-Ok-None-clause-watched g c = told_same _ _ _ _ refl

pub returns-in-Err-clause-noted : goal.returns-in-Err-clause-noted
returns-in-Err-clause-noted g c = ([], IsBrokenBehind.blind refl (blind_as _ c.unbegun.result _ _ _ _ c.in-Err.fault c.in-Err.ensures.looks c.unbegun.ensures c.in-Err.ensures.held), sym (append-nil c.args.units.now.items))

pub returns-in-Err-clause-watched : goal.returns-in-Err-clause-watched
returns-in-Err-clause-watched g c = told_same _ _ _ _ refl

pub returns-in-Err-clause-abandoned : goal.returns-in-Err-clause-abandoned
returns-in-Err-clause-abandoned g c = cut_off _ c.in-Err.fault c.unbegun.result c.unbegun.ensures
