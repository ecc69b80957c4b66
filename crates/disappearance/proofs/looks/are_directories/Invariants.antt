use Rattle.std.proofs.Common.{◌≡◌, true, take, IsTrue}
use Rattle.host_core.specs.Host.{Reads, Silent, NoFault}
use Rattle.disappearance.specs.Verdicts.{are_directories}
use Rattle.disappearance.proofs.looks.are_directories.Given as goal

abbrev pub invariant-loop-path : goal.invariant-loop-path
invariant-loop-path g l =
    let old = g.H.Host.state l.fn.host in
    let now = g.H.Host.state l.host in
    record {
      found : IsTrue now.honest → are_directories l.diversions.ways l.name old.world (take l.path-index l.paths) ≡ true;
      reads : Reads old now;
      silent : Silent old now;
      counts : NoFault old now;
    }
