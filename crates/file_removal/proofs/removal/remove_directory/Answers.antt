use Rattle.host_core.specs.World.{RemoveDir}
use Rattle.file_removal.proofs.Lowered.{took_does}
use Rattle.file_removal.proofs.removal.remove_directory.Goals as goal

pub returns-in-Ok-clause-lowered : goal.returns-in-Ok-clause-lowered
returns-in-Ok-clause-lowered g c = took_does (RemoveDir c.args.path.now) (λ t part. part) _ _ (λ h. tt) _ c.remove_dir.ensures.does

pub returns-in-Err-Declined-clause-lowered : goal.returns-in-Err-Declined-clause-lowered
returns-in-Err-Declined-clause-lowered g c = took_does (RemoveDir c.args.path.now) (λ t part. part) _ _ (λ h. tt) _ c.remove_dir.ensures.does

pub returns-in-Err-Device-clause-lowered : goal.returns-in-Err-Device-clause-lowered
returns-in-Err-Device-clause-lowered g c = took_does (RemoveDir c.args.path.now) (λ t part. part) _ _ (λ h. tt) _ c.remove_dir.ensures.does

pub returns-in-Err-NoMemory-clause-lowered : goal.returns-in-Err-NoMemory-clause-lowered
returns-in-Err-NoMemory-clause-lowered g c = took_does (RemoveDir c.args.path.now) (λ t part. part) _ _ (λ h. tt) _ c.remove_dir.ensures.does
