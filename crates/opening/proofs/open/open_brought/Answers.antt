use Rattle.host_core.proofs.Moments.{since_now}
use Rattle.opening.specs.Parts.{fault_in}
use Rattle.opening.proofs.Merging.{moments_merging, moments_opening, opens_failed, opens_merged}
use Rattle.opening.proofs.open.open_brought.Goals as goal

pub returns-in-Ok-clause-opens : goal.returns-in-Ok-clause-opens
returns-in-Ok-clause-opens g c = λ h.
    let h1 = c.settle_notes.ensures.silent.honest h in
    opens_merged (fault_in c.settle_notes.result) c.in-Ok.opened.database.records _ _ _ (c.in-Ok.ensures.opens h1) (c.in-Ok.ensures.found h1).records.holds c.settle_notes.ensures.sound
    (since_now _ _ _ c.settle_notes.ensures.any_moment h)

pub returns-in-Ok-clause-any_moment : goal.returns-in-Ok-clause-any_moment
returns-in-Ok-clause-any_moment g c =
    moments_merging c.in-Ok.opened.database.records _ _ _ c.read_administration.ensures.any_moment (λ h1. (c.in-Ok.ensures.found h1).records.holds) c.settle_notes.ensures.silent.honest c.settle_notes.ensures.any_moment

pub returns-in-Err-clause-opens : goal.returns-in-Err-clause-opens
returns-in-Err-clause-opens g c = λ h. opens_failed c.in-Err.fault _ _ (c.in-Err.ensures.opens h)

pub returns-in-Err-clause-any_moment : goal.returns-in-Err-clause-any_moment
returns-in-Err-clause-any_moment g c = moments_opening _ _ c.read_administration.ensures.any_moment
