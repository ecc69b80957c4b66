-- What a removal leaves at places of other packages, whatever its answer.
use Rattle.std.proofs.Common.{◌≡◌, IsTrue}
use Rattle.host_core.specs.Paths.{Path}
use Rattle.host_core.specs.Host.{AtEachMomentOf, State}
use Rattle.host_core.proofs.Moments.{since_now}
use Rattle.removal_engine.specs.Units.{Given, IsAmidUnit, IsRemovable}
use Rattle.stop_laws.proofs.OtherPlaces.{removal_keeps}
use Rattle.kept_files.specs.Kept.{IsOthersPlace, IsPackagePlace}
use Rattle.kept_files.proofs.Aside.{other_owner}

pub removal_leaves : (g : Given) (removable : IsRemovable g.extent g.before.records g.name) (old new : State) (q : Path) → IsOthersPlace g.ways g.before.lists g.name q → IsPackagePlace q
    → AtEachMomentOf (IsAmidUnit g) old new → IsTrue new.honest → new.world q ≡ old.world q
removal_leaves g removable old new q others packaged moments honest =
    removal_keeps g removable q (other_owner g.ways g.before.lists g.name q others) packaged.plain packaged.outside old.world new.world moments.added (since_now (IsAmidUnit g old.world) old new moments honest)
