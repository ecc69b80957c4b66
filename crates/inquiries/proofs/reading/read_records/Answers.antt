use Rattle.std.proofs.Common.{sym, subst}
use Rattle.host_core.proofs.Moments.{reads_then}
use Rattle.opening.specs.Parts.{IsTable}
use Rattle.inquiries.proofs.PartByPart.{records_stop}
use Rattle.inquiries.proofs.reading.read_records.Goals as goal

pub returns-in_err-database-clause-finds : goal.returns-in_err-database-clause-finds
returns-in_err-database-clause-finds g c = λ h.
    let u = (g.H.Host.state c.args.host.now).world in
    let v = (g.H.Host.state c.check_root.new.host).world in
    records_stop _ c.from_residual-in_err-database.result u v c.from_residual-in_err-database.ensures.1 c.check_root.ensures.reads.world
    (c.in_ok-check_root.ensures.opens (c.open.ensures.silent.honest h)) (c.in_err-database.ensures.damage h)

pub returns-in_err-database-clause-reads : goal.returns-in_err-database-clause-reads
returns-in_err-database-clause-reads g c = reads_then _ _ _ c.check_root.ensures.reads c.open.ensures.reads

pub returns-clause-table : goal.returns-clause-table
returns-clause-table g c = λ h.
    subst (λ w. IsTable w c.in_ok-database.database.records) (sym c.open.ensures.reads.world) (record { records = c.in_ok-database.ensures.records h; standing = c.law.ensures.standing })

pub returns-clause-reads : goal.returns-clause-reads
returns-clause-reads g c = reads_then _ _ _ c.check_root.ensures.reads c.open.ensures.reads
