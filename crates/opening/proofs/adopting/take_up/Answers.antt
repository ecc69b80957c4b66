use Rattle.std.proofs.Common.{◌≡◌, ◌∙◌, ap}
use Rattle.host_core.specs.Host.{State}
use Rattle.opening.proofs.TakingUp.{always, found_adopted, if_ok, kept_both, moments_merged, on_ok}
use Rattle.opening.proofs.adopting.take_up.Goals as goal

pub settle_notes-requires-clause-found : goal.settle_notes-requires-clause-found
settle_notes-requires-clause-found g c = λ h.
    let opened = c.args.opened in
    found_adopted opened.diversions.ways opened.database.records c.adopt.new.database.records c.adopt.new.database.notes opened.lists.lists opened.diversions.ways.entries _ _ (c.in-Ok.ensures.records h) (c.requires.opened (c.adopt.ensures.silent.honest h)) (c.in-Ok.ensures.kept h)

pub returns-in-Ok-clause-records : goal.returns-in-Ok-clause-records
returns-in-Ok-clause-records g c = λ h. if_ok c.settle_notes.result (λ kept same. same ∙ c.in-Ok.ensures.records (c.settle_notes.ensures.silent.honest h)) c.settle_notes.ensures.records

pub returns-in-Ok-clause-any_moment : goal.returns-in-Ok-clause-any_moment
returns-in-Ok-clause-any_moment g c =
    moments_merged c.args.opened.diversions.ways c.args.opened.database.records c.adopt.new.database.records c.adopt.new.database.notes _ _ _ c.in-Ok.ensures.records c.in-Ok.ensures.kept c.settle_notes.ensures.silent.honest c.adopt.ensures.any_moment c.settle_notes.ensures.any_moment

pub returns-in-Ok-clause-still : goal.returns-in-Ok-clause-still
returns-in-Ok-clause-still g c = λ h.
    let before = c.settle_notes.ensures.silent.honest h in
    always c.settle_notes.result (λ none. ap (λ (s : State). s.world) (c.settle_notes.ensures.still (c.in-Ok.ensures.no_note before none ∙ c.requires.number)) ∙ c.in-Ok.ensures.still before none)

pub returns-in-Ok-clause-rest : goal.returns-in-Ok-clause-rest
returns-in-Ok-clause-rest g c = λ h. on_ok c.settle_notes.result (kept_both _ _ _ (c.in-Ok.ensures.kept (c.settle_notes.ensures.silent.honest h)).rest) (c.settle_notes.ensures.rest h)
