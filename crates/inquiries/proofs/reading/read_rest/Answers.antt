use Rattle.std.proofs.Common.{inl, sym, subst}
use Rattle.host_core.specs.World.{World}
use Rattle.host_core.proofs.Moments.{reads_then}
use Rattle.opening.specs.Parts.{IsTable, names_of}
use Rattle.inquiries.proofs.PartByPart.{rest_found}
use Rattle.inquiries.proofs.reading.read_rest.Goals as goal

pub read_behind-requires-clause-table : goal.read_behind-requires-clause-table
read_behind-requires-clause-table g c = λ h. subst (λ (w : World). IsTable w c.args.database.records) (sym c.read_lists.ensures.reads.world) (c.requires (c.read_lists.ensures.silent.honest h))

pub returns-in-Ok-clause-finds : goal.returns-in-Ok-clause-finds
returns-in-Ok-clause-finds g c = λ h. rest_found c.read_behind.result (names_of c.args.database.records) (g.H.Host.state c.args.host.now).world (g.H.Host.state c.read_lists.new.host).world c.read_lists.ensures.reads.world (c.in-Ok.ensures.finds (c.read_behind.ensures.silent.honest h)) (c.read_behind.ensures.finds h)

pub returns-in-Ok-clause-reads : goal.returns-in-Ok-clause-reads
returns-in-Ok-clause-reads g c = reads_then _ _ _ c.read_lists.ensures.reads c.read_behind.ensures.reads

pub returns-in-Err-clause-finds : goal.returns-in-Err-clause-finds
returns-in-Err-clause-finds g c = λ h. inl (c.in-Err.ensures.finds h)
