use Rattle.std.proofs.Common.{◌≡◌, ◌++◌, IsTrue, take}
use Rattle.host_core.specs.Host.{Reads, Silent, NoFault}
use Rattle.trigger_watch.specs.Hits.{hits_of}
use Rattle.trigger_watch.proofs.hits.add_hits.Given as goal

abbrev pub invariant-loop-package : goal.invariant-loop-package
invariant-loop-package g l =
    let old = g.H.Host.state l.fn.host in
    let now = g.H.Host.state l.host in
    record {
      so_far : IsTrue now.honest → l.found.items ≡ l.fn.found.items ++ hits_of old.world l.lists.lists l.by_files l.interests (take l.package-index l.packages);
      reads : Reads old now;
      silent : Silent old now;
      faults_same : NoFault old now;
    }
