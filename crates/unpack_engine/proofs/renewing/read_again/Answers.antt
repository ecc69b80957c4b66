use Rattle.std.proofs.Common.{◌≡◌, IsTrue, sym, subst}
use Rattle.std.specs.Prelude.{IfOk, Result, Bool}
use Rattle.host_core.specs.Host.{Counts}
use Rattle.host_core.specs.declared.fault.HostFault.{HostFault}
use Rattle.diversions.specs.Diverted.{Diverted}
use Rattle.unpack_engine.specs.Units.{IsTableIn}
use Rattle.unpack_engine.proofs.Reading.{counts_in, if_ok_when, unread}
use Rattle.unpack_engine.proofs.renewing.read_again.Goals as goal

pub returns-in-Err-clause-table : goal.returns-in-Err-clause-table
returns-in-Err-clause-table g c =
    let w = (g.H.Host.state c.args.host.now).world in
    let ways = c.args.diversions.now.ways in
    if_ok_when c.fault_in.result (λ changed. IsTableIn w ways ways)
    (λ h. subst (λ (r : Result Bool HostFault). IfOk r (λ changed. IsTableIn w ways ways)) (sym c.fault_in.ensures) (unread c.in-Err.fault w ways (c.in-Err.ensures.damage h)))

pub returns-in-Err-clause-counts : goal.returns-in-Err-clause-counts
returns-in-Err-clause-counts g c =
    subst (Counts (g.H.Host.state c.args.host.now) (g.H.Host.state c.open.new.host)) (sym c.fault_in.ensures) (counts_in Diverted c.in-Err.fault _ _ c.in-Err.ensures.counts)
