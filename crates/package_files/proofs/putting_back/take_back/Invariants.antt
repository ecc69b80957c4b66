use Rattle.std.proofs.Common.{◌≡◌, ◌≤◌, IsTrue, length, drop}
use Rattle.host_core.specs.World.{World}
use Rattle.host_core.specs.Host.{AtEachMoment, Silent, NoFault}
use Rattle.package_files.specs.Files.{PutBack}
use Rattle.package_files.specs.Laid.{IsUnderWayFrom, IsUndoing}
use Rattle.package_files.proofs.putting_back.take_back.Given as goal

abbrev pub invariant-loop-count : goal.invariant-loop-count
invariant-loop-count g l =
    let old = g.H.Host.state l.fn.host in
    let now = g.H.Host.state l.host in
    record {
      within : l.count ≤ length l.works;
      silent : Silent old now;
      counts : NoFault old now;
      back : IsTrue now.honest → (was : World) → IsUnderWayFrom l.works was old.world → PutBack (drop l.count l.works) was old.world now.world;
      any_moment : AtEachMoment (IsUndoing l.works) old now;
    }

abbrev pub decreases-loop-count : goal.decreases-loop-count
decreases-loop-count g l = l.count
