use Rattle.std.proofs.Common.{◌-◌, take, drop, length, IsTrue}
use Rattle.host_core.specs.World.{World}
use Rattle.host_core.specs.Host.{AtEachMoment, Silent, NoFault}
use Rattle.package_files.specs.Laid.{AllSynced, AreCommitting, IsPreparedFrom}
use Rattle.package_files.proofs.PartWay.{IsPartWay}
use Rattle.package_files.proofs.committing.commit_all.Given as goal

abbrev pub invariant-loop-index : goal.invariant-loop-index
invariant-loop-index g l =
    let old = g.H.Host.state l.fn.host in
    let now = g.H.Host.state l.host in
    record {
      silent : Silent old now;
      counts : NoFault old now;
      synced : AllSynced now.events;
      part : IsTrue now.honest → (was : World) → IsPreparedFrom l.works was old.world → IsPartWay (take l.index l.works) (drop l.index l.works) was now.world;
      any_moment : AtEachMoment (AreCommitting l.works) old now;
    }

abbrev pub decreases-loop-index : goal.decreases-loop-index
decreases-loop-index g l = length l.works - l.index
