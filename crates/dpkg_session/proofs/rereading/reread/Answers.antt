use Rattle.host_core.proofs.Moments.{reads_then}
use Rattle.dpkg_session.proofs.rereading.reread.Goals as goal

pub returns-in-Ok-take_if_changed-clause-reads : goal.returns-in-Ok-take_if_changed-clause-reads
returns-in-Ok-take_if_changed-clause-reads g c = reads_then _ _ _ c.open.ensures.reads c.take_if_changed.ensures.reads

pub returns-in-Err-take_if_changed-clause-reads : goal.returns-in-Err-take_if_changed-clause-reads
returns-in-Err-take_if_changed-clause-reads g c = reads_then _ _ _ c.open.ensures.reads c.take_if_changed.ensures.reads
