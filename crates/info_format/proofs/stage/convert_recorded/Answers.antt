use Rattle.std.proofs.Common.{inl, inr, sym, subst}
use Rattle.host_core.specs.World.{World, IsDirectory}
use Rattle.administration.specs.Places.{info_path}
use Rattle.info_format.proofs.Stages.{damaged_by, done_by, moments_converted, moments_read, unreadable}
use Rattle.info_format.proofs.stage.convert_recorded.Goals as goal

pub convert-requires : goal.convert-requires
convert-requires g c = record { info = λ h. subst (λ (w : World). IsDirectory (w info_path)) (sym c.open.ensures.reads.world) (c.requires.info (c.open.ensures.silent.honest h)) }

pub returns-in-Ok-clause-done : goal.returns-in-Ok-clause-done
returns-in-Ok-clause-done g c = λ h. done_by c.convert.result c.in-Ok.database.records _ _ _ c.open.ensures.reads.world (c.in-Ok.ensures.records (c.convert.ensures.silent.honest h)) (c.convert.ensures.converted h)

pub returns-in-Ok-clause-fault : goal.returns-in-Ok-clause-fault
returns-in-Ok-clause-fault g c = λ h. damaged_by c.convert.result c.in-Ok.database.records _ _ c.open.ensures.reads.world (c.in-Ok.ensures.records (c.convert.ensures.silent.honest h)) (c.convert.ensures.fault h)

pub returns-in-Ok-clause-any_moment : goal.returns-in-Ok-clause-any_moment
returns-in-Ok-clause-any_moment g c = moments_converted c.in-Ok.database.records _ _ _ c.open.ensures.reads (λ h. c.in-Ok.ensures.records (c.convert.ensures.silent.honest h)) c.convert.ensures.any_moment

pub returns-in-Err-Damaged-clause-done : goal.returns-in-Err-Damaged-clause-done
returns-in-Err-Damaged-clause-done g c = λ h. inl (c.open.ensures.reads.world, unreadable _ _ c.in-Err-Damaged.field-0-0 c.in-Err-Damaged.field-0-1 c.in-Err-Damaged.field-0-is (c.in-Err-Damaged.ensures.damage h))

pub returns-in-Err-Damaged-clause-any_moment : goal.returns-in-Err-Damaged-clause-any_moment
returns-in-Err-Damaged-clause-any_moment g c = moments_read _ _ c.open.ensures.reads

pub returns-in-Err-Device-clause-any_moment : goal.returns-in-Err-Device-clause-any_moment
returns-in-Err-Device-clause-any_moment g c = moments_read _ _ c.open.ensures.reads

pub returns-in-Err-NoMemory-clause-any_moment : goal.returns-in-Err-NoMemory-clause-any_moment
returns-in-Err-NoMemory-clause-any_moment g c = moments_read _ _ c.open.ensures.reads

pub returns-clause-any_moment : goal.returns-clause-any_moment
returns-clause-any_moment g c = moments_read _ _ c.open.ensures.reads
