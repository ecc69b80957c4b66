use Rattle.host_core.proofs.Moments.{reads_then}
use Rattle.unpack_engine.proofs.following.follow_again.Goals as goal

pub returns-in-Ok-clause-reads : goal.returns-in-Ok-clause-reads
returns-in-Ok-clause-reads g c = reads_then _ _ _ c.have_moved.ensures.reads c.follow_anew.ensures.reads

pub returns-in-Err-follow_anew-clause-reads : goal.returns-in-Err-follow_anew-clause-reads
returns-in-Err-follow_anew-clause-reads g c = reads_then _ _ _ c.have_moved.ensures.reads c.follow_anew.ensures.reads
