use Rattle.std.proofs.Common.{◌≡◌, ◌++◌, IsTrue, take}
use Rattle.host_core.specs.Host.{Reads, Silent, NoFault}
use Rattle.trigger_files.specs.Entries.{entries_of}
use Rattle.trigger_files.proofs.entries.add_records.Given as goal

abbrev pub invariant-loop-entry : goal.invariant-loop-entry
invariant-loop-entry g l =
    let old = g.H.Host.state l.fn.host in
    let now = g.H.Host.state l.host in
    record {
      so_far : IsTrue now.honest → l.found.items ≡ l.fn.found.items ++ entries_of old.world (take l.entry-index l.records);
      reads : Reads old now;
      silent : Silent old now;
      faults_same : NoFault old now;
    }
