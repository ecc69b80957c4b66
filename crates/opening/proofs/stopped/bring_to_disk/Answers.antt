use Rattle.host_core.proofs.Barriers.{sync_root_world}
use Rattle.opening.proofs.Brought.{looks_brought, looks_idle, looks_unbrought, moments_looked, moments_synced}
use Rattle.opening.proofs.stopped.bring_to_disk.Goals as goal

pub returns-in_err-was_stopped-clause-brought : goal.returns-in_err-was_stopped-clause-brought
returns-in_err-was_stopped-clause-brought g c = λ h stopped. looks_idle c.from_residual-in_err-was_stopped.result _ _ c.from_residual-in_err-was_stopped.ensures.0 c.was_stopped.ensures.looks.reads

pub returns-in_err-was_stopped-clause-any_moment : goal.returns-in_err-was_stopped-clause-any_moment
returns-in_err-was_stopped-clause-any_moment g c = moments_looked _ _ c.was_stopped.ensures.looks.reads

pub returns-then-not-branch-clause-any_moment : goal.returns-then-not-branch-clause-any_moment
returns-then-not-branch-clause-any_moment g c = moments_looked _ _ c.was_stopped.ensures.looks.reads

pub returns-in-Ok-clause-any_moment : goal.returns-in-Ok-clause-any_moment
returns-in-Ok-clause-any_moment g c = moments_synced c.sync_root.result _ _ _ c.was_stopped.ensures.looks.reads c.sync_root.ensures.does

pub returns-in-Ok-clause-brought : goal.returns-in-Ok-clause-brought
returns-in-Ok-clause-brought g c = λ h stopped. looks_brought _ _ _ c.was_stopped.ensures.looks.reads c.in-Ok.ensures.does

pub returns-clause-any_moment : goal.returns-clause-any_moment
returns-clause-any_moment g c = moments_synced c.sync_root.result _ _ _ c.was_stopped.ensures.looks.reads c.sync_root.ensures.does

pub returns-clause-brought : goal.returns-clause-brought
returns-clause-brought g c = λ h stopped. looks_unbrought c.in-Err.fault _ _ _ c.was_stopped.ensures.looks.reads c.in-Err.ensures.does h
