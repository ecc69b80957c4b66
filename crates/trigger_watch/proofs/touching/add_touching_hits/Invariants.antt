use Rattle.std.proofs.Common.{◌≡◌, ◌++◌, IsTrue, take}
use Rattle.host_core.specs.Host.{Reads, Silent, NoFault}
use Rattle.trigger_watch.specs.Touches.{touching_hits}
use Rattle.trigger_watch.proofs.touching.add_touching_hits.Given as goal

abbrev pub invariant-loop-touch : goal.invariant-loop-touch
invariant-loop-touch g l =
    let old = g.H.Host.state l.fn.host in
    let now = g.H.Host.state l.host in
    record {
      so_far : IsTrue now.honest → l.found.items ≡ l.fn.found.items ++ touching_hits old.world l.lists.lists l.by_files l.before l.interests (take l.touch-index l.touches);
      reads : Reads old now;
      silent : Silent old now;
      faults_same : NoFault old now;
    }
