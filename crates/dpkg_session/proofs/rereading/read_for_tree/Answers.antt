use Rattle.host_core.proofs.Moments.{reads_then}
use Rattle.dpkg_session.proofs.rereading.read_for_tree.Goals as goal

pub returns-in-Ok-follow_tree-clause-reads : goal.returns-in-Ok-follow_tree-clause-reads
returns-in-Ok-follow_tree-clause-reads g c = reads_then _ _ _ c.reread.ensures.reads c.follow_tree.ensures.reads

pub returns-in-Err-follow_tree-clause-reads : goal.returns-in-Err-follow_tree-clause-reads
returns-in-Err-follow_tree-clause-reads g c = reads_then _ _ _ c.reread.ensures.reads c.follow_tree.ensures.reads
