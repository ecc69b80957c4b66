use Rattle.std.proofs.Common.{IsTrue}
use Rattle.host_core.specs.Host.{Reads, Silent, NoFault}
use Rattle.configure_run.proofs.Silence.{AreSilentSoFar}
use Rattle.configure_run.proofs.starting.silent_of.Given as goal

abbrev pub invariant-loop-entry : goal.invariant-loop-entry
invariant-loop-entry g l =
    let old = g.H.Host.state l.fn.host in
    let now = g.H.Host.state l.host in
    record {
      so_far : IsTrue now.honest → AreSilentSoFar old.world l.names l.records l.entry-index l.set.items;
      reads : Reads old now;
      silent : Silent old now;
      faults_same : NoFault old now;
    }
