use Rattle.opening.proofs.Brought.{as_before, brought_then, later_of, moments_opened, opens_unbrought}
use Rattle.opening.proofs.open.open_administration.Goals as goal

pub returns-in-Ok-clause-any_moment : goal.returns-in-Ok-clause-any_moment
returns-in-Ok-clause-any_moment g c = moments_opened _ _ _ c.bring_to_disk.ensures.same c.open_named.ensures.silent.honest c.bring_to_disk.ensures.any_moment c.open_named.ensures.any_moment

pub returns-in-Ok-clause-brought : goal.returns-in-Ok-clause-brought
returns-in-Ok-clause-brought g c = λ h stopped. brought_then c.open_named.result _ _ _ (c.in-Ok.ensures.brought (c.open_named.ensures.silent.honest h) stopped) (later_of _ _ _ c.open_named.ensures.any_moment)

pub returns-in-Err-clause-opens : goal.returns-in-Err-clause-opens
returns-in-Err-clause-opens g c = λ h. opens_unbrought c.in-Err.fault _ _ (c.bring_to_disk.ensures.same h) c.in-Err.ensures.sound

pub returns-in-Err-clause-any_moment : goal.returns-in-Err-clause-any_moment
returns-in-Err-clause-any_moment g c = as_before _ _ c.bring_to_disk.ensures.any_moment
