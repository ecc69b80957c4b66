-- Steps of an unpack's commit, in Policy's order (6.6): old paths go and the new list is written; places leave other packages'
-- lists, and what stands at names that only the installer writes goes.
use Rattle.std.specs.Prelude.{◌≡◌, ◌⊎◌, ℕ, false, List, ◌∷◌, ◌++◌, Contains, IsTrue, Result, OnOk}
use Rattle.host_core.specs.Paths.{Path}
use Rattle.host_core.specs.World.{World, Barrier}
use Rattle.host_core.specs.Events.{Event, Did}
use Rattle.host_core.specs.Host.{State}
use Rattle.host_core.specs.declared.node.Node.{Node}
use Rattle.administration.specs.Files.{IsReplaced, IsReplacing, NoDirectory}
use Rattle.administration.specs.Places.{home_path, is_within, list_path, temporary}
use Rattle.diversions.specs.Ways.{Ways}
use Rattle.file_lists.specs.declared.paths.PackageList.{PackageList}
use Rattle.file_lists.specs.Taking.{HasTakenAll, IsTaking}
use Rattle.file_removal.specs.declared.leaving.Leaving.{Leaving}
use Rattle.file_removal.specs.Removal.{any_path, Removed, IsRemoving}
use Rattle.file_removal.specs.Lowering.{TookLowered}
use Rattle.file_removal.specs.Clearing.{Cleared, IsRetiring}

-- no path that goes has its place in the directory of the administration
abbrev pub SparesAdministration : List Leaving → Type 0
SparesAdministration leaving = (x : Leaving) → Contains leaving x → IsTrue x.goes → is_within home_path x.place ≡ false

-- the old version's paths went, but for directories whose removal was declined, and then the list was written
pub record HasRenewedUnless (declined : Path → Type 0) (leaving : List Leaving) (list : Path) (node : Node) (old new : World) : Type 0 where
  pub mid : World
  pub removed : Removed declined leaving old mid
  pub replaced : IsReplaced list node mid new

-- whatever was declined
abbrev pub HasRenewed : List Leaving → Path → Node → World → World → Type 0
HasRenewed leaving list node old new = HasRenewedUnless any_path leaving list node old new

-- at each moment: the paths are going, or they went and the list is being written
abbrev pub MayRenewUnless : (declined : Path → Type 0) → List Leaving → Path → Node → World → World → Type 0
MayRenewUnless declined leaving list node old now = IsRemoving leaving old now ⊎ ((mid : World) × Removed declined leaving old mid × IsReplacing list node mid now)

-- whatever was declined
abbrev pub MayRenew : List Leaving → Path → Node → World → World → Type 0
MayRenew leaving list node old now = MayRenewUnless any_path leaving list node old now

-- a barrier was the first thing that was done: what was done before is on the disk before anything else
abbrev pub BeganWithBarrier : State → State → Type 0
BeganWithBarrier old new = (later : List Event) × (new.events ≡ old.events ++ Did Barrier ∷ later)

-- no directory stands at the temporary names of these packages' lists
abbrev pub AreSparesLoose : List Path → World → Type 0
AreSparesLoose from w = (name : List ℕ) → Contains from name → NoDirectory (w (temporary (list_path name)))

-- the lists of these packages lost the places, then what stood at the names went
pub record HasReleased (ways : Ways) (places : List Path) (from : List Path) (had : List PackageList) (names : List Path) (old new : World) : Type 0 where
  pub mid : World
  pub taken : HasTakenAll ways places from had old mid
  pub spares : AreSparesLoose from mid
  pub cleared : Cleared names mid new

-- at each moment: the lists lose the places, or they have lost them and what stands at the names is going
abbrev pub MayRelease : Ways → List Path → List Path → List PackageList → List Path → World → World → Type 0
MayRelease ways places from had names old now =
    IsTaking ways places from had old now ⊎ ((mid : World) × HasTakenAll ways places from had old mid × AreSparesLoose from mid × IsRetiring names mid now)

-- behind the lists each file that went lent no rights any more when it did
abbrev pub LeavesRetired : {T E : Type 0} → Result T E → Ways → List Path → List Path → List PackageList → State → State → Type 0
LeavesRetired result ways places from had old new =
    IsTrue new.honest → OnOk result ((mid : State) × HasTakenAll ways places from had old.world mid.world × TookLowered mid new)
