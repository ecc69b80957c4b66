use Rattle.std.proofs.Common.{◌≡◌, List, [], Some, map}
use Rattle.std.specs.Prelude.{MatchOption}
use Rattle.dpkg_session.specs.Activated.{change_by}
use Rattle.trigger_journal.specs.Asked.{asked_of}
use Rattle.unit_reports.specs.Held.{held_by}
use Rattle.trigger_turns.proofs.Turned.{looks_else}
use Rattle.trigger_turns.proofs.Steps.{held_same, looks_as}
use Rattle.trigger_turns.proofs.asking.asked_some.Goals as goal

pub returns-in-Ok-clause-looks : goal.returns-in-Ok-clause-looks
returns-in-Ok-clause-looks g c =
    let records = c.args.session.now.administration.database.records in
    looks_as (λ v. Some v) c.in-Ok.changes (λ found w. MatchOption found ⊥ (λ changes. changes.items ≡ map change_by (asked_of w records []))) _ _ (c.in-Ok.ensures.looks c.requires)

pub returns-in-Ok-clause-held : goal.returns-in-Ok-clause-held
returns-in-Ok-clause-held g c = held_same held_by _ _ _ _ c.in-Ok.ensures.held c.in-Ok.ensures.diversions

pub returns-in-Err-clause-looks : goal.returns-in-Err-clause-looks
returns-in-Err-clause-looks g c = looks_else _ _ _ _ c.in-Err.fault (c.in-Err.ensures.looks c.requires)

pub returns-in-Err-clause-held : goal.returns-in-Err-clause-held
returns-in-Err-clause-held g c = held_same held_by _ _ _ _ c.in-Err.ensures.held c.in-Err.ensures.diversions
