use Rattle.std.proofs.Common.{◌≡◌, IsTrue, take}
use Rattle.host_core.specs.Host.{AtEachMoment, Silent, NoFault}
use Rattle.trigger_files.specs.Steps.{AreBeingWritten, AreOpen, AreWritten}
use Rattle.trigger_files.proofs.writing.write_each.Given as goal

abbrev pub invariant-loop-name : goal.invariant-loop-name
invariant-loop-name g l =
    let old = g.H.Host.state l.fn.host in
    let now = g.H.Host.state l.host in
    record {
      silent : Silent old now;
      counts : NoFault old now;
      written : IsTrue now.honest → AreWritten l.entries (take l.name-index l.names) old.world now.world;
      free : IsTrue now.honest → AreOpen now.world l.names;
      any_moment : AtEachMoment (AreBeingWritten l.entries l.names) old now;
    }
