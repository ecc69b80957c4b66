use Rattle.std.proofs.Common.{inl}
use Rattle.host_core.proofs.Moments.{reads_then}
use Rattle.inquiries.proofs.PartByPart.{behind_found}
use Rattle.inquiries.proofs.reading.read_all.Goals as goal

pub returns-in-Ok-clause-finds : goal.returns-in-Ok-clause-finds
returns-in-Ok-clause-finds g c = λ h.
    let h0 = c.read_rest.ensures.silent.honest h in
    behind_found c.read_rest.result c.in-Ok.database.records (g.H.Host.state c.args.host.now).world (g.H.Host.state c.read_records.new.host).world c.read_records.ensures.reads.world (c.in-Ok.ensures.finds h0) (c.in-Ok.ensures.table h0) (c.read_rest.ensures.finds h)

pub returns-in-Ok-clause-reads : goal.returns-in-Ok-clause-reads
returns-in-Ok-clause-reads g c = reads_then _ _ _ c.read_records.ensures.reads c.read_rest.ensures.reads

pub returns-in-Err-clause-finds : goal.returns-in-Err-clause-finds
returns-in-Err-clause-finds g c = λ h. inl (c.in-Err.ensures.finds h)
