use Rattle.std.proofs.Common.{◌≡◌, ◌∙◌, List, [], map}
use Rattle.std.specs.Prelude.{MatchOption}
use Rattle.dpkg_session.specs.Activated.{change_by}
use Rattle.trigger_journal.proofs.Steps.{looks_then}
use Rattle.trigger_journal.specs.Asked.{asked_of}
use Rattle.trigger_journal.specs.Requests.{requests_of}
use Rattle.unit_reports.specs.Held.{held_by}
use Rattle.trigger_turns.proofs.Turned.{asked_then, looks_else}
use Rattle.trigger_turns.proofs.Steps.{held_same}
use Rattle.trigger_turns.proofs.asking.asked.Goals as goal

pub returns-in-Ok-clause-looks : goal.returns-in-Ok-clause-looks
returns-in-Ok-clause-looks g c =
    let look = c.in-Ok.ensures.looks c.requires in
    let records = c.args.session.now.administration.database.records in
    let other = c.requested_triggers.new.self.administration.database.records in
    looks_then c.asked_for.result (λ found w. MatchOption found (c.as_slice.result.now ≡ []) (λ changes. changes.items ≡ map change_by (asked_of w other [])))
    (λ found w. MatchOption found (requests_of w ≡ []) (λ changes. changes.items ≡ map change_by (asked_of w records []))) _ _ _ look.reads look.silent look.counts c.asked_for.ensures.looks
    (λ h x is. asked_then (λ v. v.items) records other _ _ c.as_slice.result.now _ (λ i. (c.in-Ok.ensures.held i).database.records) look.reads.world (c.as_slice.ensures.value ∙ look.found h) x is)

pub returns-in-Ok-clause-held : goal.returns-in-Ok-clause-held
returns-in-Ok-clause-held g c = c.asked_for.ensures.held ∙ held_same held_by _ _ _ _ c.in-Ok.ensures.held c.in-Ok.ensures.diversions

pub returns-in-Err-clause-looks : goal.returns-in-Err-clause-looks
returns-in-Err-clause-looks g c = looks_else _ _ _ _ c.in-Err.fault (c.in-Err.ensures.looks c.requires)

pub returns-in-Err-clause-held : goal.returns-in-Err-clause-held
returns-in-Err-clause-held g c = held_same held_by _ _ _ _ c.in-Err.ensures.held c.in-Err.ensures.diversions
