use Rattle.std.proofs.Common.{◌≡◌, IsTrue, length, drop, ◌≤◌}
use Rattle.host_core.specs.Host.{AtEachMoment, Silent, NoFault, WasDenied}
use Rattle.file_removal.specs.Removal.{RemovedUnless, IsRemovingBy}
use Rattle.file_removal.specs.Lowering.{TookLowered}
use Rattle.file_removal.proofs.removal.remove_each.Given as goal

abbrev pub invariant-loop-count : goal.invariant-loop-count
invariant-loop-count g l =
    let old = g.H.Host.state l.fn.host in
    let now = g.H.Host.state l.host in
    record {
      within : l.count ≤ length l.leaving;
      silent : Silent old now;
      counts : NoFault old now;
      removed : IsTrue now.honest → RemovedUnless (WasDenied old now) l.directories_only (drop l.count l.leaving) old.world now.world;
      any_moment : AtEachMoment (IsRemovingBy l.directories_only l.leaving) old now;
      lowered : TookLowered old now;
    }

abbrev pub decreases-loop-count : goal.decreases-loop-count
decreases-loop-count g l = l.count
