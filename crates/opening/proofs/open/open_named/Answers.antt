use Rattle.opening.specs.Parts.{fault_in}
use Rattle.opening.proofs.Brought.{moments_named, moments_naming, opens_named, opens_unnamed}
use Rattle.host_core.proofs.Moments.{since_now}
use Rattle.opening.proofs.open.open_named.Goals as goal

pub returns-in-Ok-clause-opens : goal.returns-in-Ok-clause-opens
returns-in-Ok-clause-opens g c = λ h. opens_named (fault_in c.open_brought.result) _ _ _ (c.in-Ok.ensures.done (c.open_brought.ensures.silent.honest h)) (c.open_brought.ensures.opens h)

pub returns-in-Ok-clause-any_moment : goal.returns-in-Ok-clause-any_moment
returns-in-Ok-clause-any_moment g c = moments_named _ _ _ c.open_brought.ensures.silent.honest c.bring_names.ensures.any_moment c.open_brought.ensures.any_moment

pub returns-in-Err-clause-opens : goal.returns-in-Err-clause-opens
returns-in-Err-clause-opens g c = λ h. opens_unnamed c.in-Err.fault _ _ (since_now _ _ _ c.bring_names.ensures.any_moment h) (c.in-Err.ensures.fault h)

pub returns-in-Err-clause-any_moment : goal.returns-in-Err-clause-any_moment
returns-in-Err-clause-any_moment g c = moments_naming _ _ c.bring_names.ensures.any_moment
