use Rattle.host_core.proofs.Moments.{reads_then}
use Rattle.std.proofs.Common.{inl}
use Rattle.opening.proofs.Finding.{host_damage}
use Rattle.inquiries.specs.Read.{records_parts}
use Rattle.inquiries.proofs.files.search.Goals as goal

pub returns-in-Ok-search_read-clause-finds : goal.returns-in-Ok-search_read-clause-finds
returns-in-Ok-search_read-clause-finds g c = λ h. c.in-Ok.ensures.finds (c.search_read.ensures.silent.honest h)

pub returns-in-Ok-search_read-clause-reads : goal.returns-in-Ok-search_read-clause-reads
returns-in-Ok-search_read-clause-reads g c = reads_then _ _ _ c.read_followed.ensures.reads c.search_read.ensures.reads

pub returns-in-Err-search_read-clause-reads : goal.returns-in-Err-search_read-clause-reads
returns-in-Err-search_read-clause-reads g c = reads_then _ _ _ c.read_followed.ensures.reads c.search_read.ensures.reads

pub returns-in-Err-search_read-clause-finds : goal.returns-in-Err-search_read-clause-finds
returns-in-Err-search_read-clause-finds g c = λ h. inl (host_damage records_parts (g.H.Host.state c.args.host.now).world c.in-Err-search_read.fault c.from.result c.from.ensures)
