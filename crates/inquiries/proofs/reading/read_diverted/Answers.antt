use Rattle.host_core.proofs.Moments.{reads_then}
use Rattle.inquiries.proofs.reading.read_diverted.Goals as goal

pub returns-in-Ok-read_ways-clause-reads : goal.returns-in-Ok-read_ways-clause-reads
returns-in-Ok-read_ways-clause-reads g c = reads_then _ _ _ c.read_diversions.ensures.reads c.read_ways.ensures.reads

pub returns-in-Err-read_ways-clause-reads : goal.returns-in-Err-read_ways-clause-reads
returns-in-Err-read_ways-clause-reads g c = reads_then _ _ _ c.read_diversions.ensures.reads c.read_ways.ensures.reads
