use Rattle.std.proofs.Common.{◌≡◌, IsTrue, filter, take}
use Rattle.host_core.specs.Host.{Reads, Silent, NoFault}
use Rattle.trigger_files.specs.Registered.{is_unsettled}
use Rattle.trigger_files.specs.Steps.{AreRegisters}
use Rattle.trigger_files.proofs.due.unsettled.Given as goal

abbrev pub invariant-loop-name : goal.invariant-loop-name
invariant-loop-name g l =
    let old = g.H.Host.state l.fn.host in
    let now = g.H.Host.state l.host in
    record {
      so_far : IsTrue now.honest → l.found.items ≡ filter (is_unsettled l.entries old.world) (take l.name-index l.names);
      registers : AreRegisters l.found.items;
      reads : Reads old now;
      silent : Silent old now;
      faults_same : NoFault old now;
    }
