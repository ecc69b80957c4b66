use Rattle.std.proofs.Common.{◌≡◌, None, take, IsTrue}
use Rattle.std.specs.List.{All}
use Rattle.host_core.specs.Host.{Reads, Silent, NoFault}
use Rattle.host_core.specs.Paths.{Path}
use Rattle.conffiles.specs.Settling.{CanSettle}
use Rattle.configure_engine.specs.Obstacles.{names_of_all, IsObstacle}
use Rattle.configure_engine.proofs.obstacles.look_at_each.Given as goal

abbrev pub invariant-loop-path : goal.invariant-loop-path
invariant-loop-path g l =
    let old = g.H.Host.state l.fn.host in
    let now = g.H.Host.state l.host in
    record {
      found : IsTrue now.honest → IsObstacle old.world (names_of_all (take l.path-index l.paths)) l.least;
      clear : IsTrue now.honest → l.least ≡ None → All (λ (x : Path). CanSettle x old.world) (take l.path-index l.paths);
      reads : Reads old now;
      silent : Silent old now;
      counts : NoFault old now;
    }
