use Rattle.dpkg_session.proofs.Checkpoints.{merging_to_disk}
use Rattle.dpkg_session.proofs.checkpointing.merge_to_disk.Goals as goal

pub returns-in_err-barrier-in-Ok-clause-any_moment : goal.returns-in_err-barrier-in-Ok-clause-any_moment
returns-in_err-barrier-in-Ok-clause-any_moment g c = merging_to_disk _ _ _ _ _ c.checkpoint.ensures.any_moment c.barrier.ensures.does

pub returns-in_ok-barrier-in-Ok-clause-any_moment : goal.returns-in_ok-barrier-in-Ok-clause-any_moment
returns-in_ok-barrier-in-Ok-clause-any_moment g c = merging_to_disk _ _ _ _ _ c.checkpoint.ensures.any_moment c.barrier.ensures.does
