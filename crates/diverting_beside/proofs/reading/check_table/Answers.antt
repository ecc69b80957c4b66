use Rattle.host_core.proofs.Moments.{reads_then}
use Rattle.diverting_beside.proofs.reading.check_table.Goals as goal

pub returns-in-Ok-clause-reads : goal.returns-in-Ok-clause-reads
returns-in-Ok-clause-reads g c = reads_then _ _ _ c.check_home.ensures.reads c.check_spare.ensures.reads
