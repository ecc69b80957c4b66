use Rattle.std.proofs.Common.{◌≡◌, IsTrue, take}
use Rattle.host_core.specs.Host.{Reads, Silent, NoFault}
use Rattle.trigger_files.specs.Steps.{AreRegisters, open_of}
use Rattle.trigger_files.proofs.due.read_open.Given as goal

abbrev pub invariant-loop-name : goal.invariant-loop-name
invariant-loop-name g l =
    let old = g.H.Host.state l.fn.host in
    let now = g.H.Host.state l.host in
    record {
      so_far : IsTrue now.honest → l.found.items ≡ open_of old.world (take l.name-index l.names);
      registers : AreRegisters l.found.items;
      reads : Reads old now;
      silent : Silent old now;
      faults_same : NoFault old now;
    }
