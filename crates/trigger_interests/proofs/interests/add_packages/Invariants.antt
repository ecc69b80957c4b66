use Rattle.std.proofs.Common.{◌≡◌, ◌++◌, IsTrue, take}
use Rattle.host_core.specs.Host.{Reads, Silent, NoFault}
use Rattle.trigger_interests.specs.Interests.{interests_of}
use Rattle.trigger_interests.proofs.interests.add_packages.Given as goal

abbrev pub invariant-loop-package : goal.invariant-loop-package
invariant-loop-package g l =
    let old = g.H.Host.state l.fn.host in
    let now = g.H.Host.state l.host in
    record {
      so_far : IsTrue now.honest → l.found.items ≡ l.fn.found.items ++ interests_of old.world (take l.package-index l.packages);
      reads : Reads old now;
      silent : Silent old now;
      faults_same : NoFault old now;
    }
