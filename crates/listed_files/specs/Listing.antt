-- A package's list and its files: while files are written the list names old and new paths (Policy 6.6).
use Rattle.std.specs.Prelude.{◌⊎◌, ◌+◌, ◌<◌, IsTrue, List, Result, Ok, Err}
use Rattle.host_core.specs.Paths.{Path}
use Rattle.host_core.specs.World.{World}
use Rattle.host_core.specs.Host.{State, denials}
use Rattle.host_core.specs.declared.fault.HostFault.{HostFault}
use Rattle.host_core.specs.declared.fault.HostFault.TheVariants.{Device, NoMemory, Declined}
use Rattle.host_core.specs.declared.node.Node.{Node}
use Rattle.administration.specs.Files.{IsReplaced, IsReplacing}
use Rattle.package_files.specs.declared.work.Work.{Work}
use Rattle.package_files.specs.Files.{IsAmid, Undone, Written}
use Rattle.package_files.specs.Back.{GoesBack, IsGoingBack}

-- the list was written, and then the files
pub record HasListed (list : Path) (node : Node) (works : List Work) (old new : World) : Type 0 where
  pub mid : World
  pub replaced : IsReplaced list node old mid
  pub written : Written works mid new

-- at each moment: the list is being written, or it stands and the files are being written
abbrev pub MayList : Path → Node → List Work → World → World → Type 0
MayList list node works old now = IsReplacing list node old now ⊎ ((mid : World) × IsReplaced list node old mid × IsAmid works mid mid now)

-- the list was written; a step of the files was declined, and they were put back; then the list that there had been was written
pub record HasTurnedBack (list : Path) (union listed : Node) (works : List Work) (old new : World) : Type 0 where
  pub mid : World
  pub replaced : IsReplaced list union old mid
  pub back : World
  pub undone : Undone works mid back
  pub unlisted : IsReplaced list listed back new

-- at each moment: the list and the files are being written, or put back; or that is done and the old list is being written
abbrev pub MayTurnBack : Path → (union listed : Node) → List Work → World → World → Type 0
MayTurnBack list union listed works old now =
    MayList list union works old now ⊎ ((mid back : World) × IsReplaced list union old mid × Undone works mid back × IsReplacing list listed back now)

-- Declined is told only where no file has been touched yet, since the list wasn't written, or where two steps were declined
abbrev pub DeclinesListed : {T : Type 0} → Path → Node → Result T HostFault → State → State → Type 0
DeclinesListed list union (Ok x) old new = Unit {0}
DeclinesListed list union (Err Device) old new = Unit {0}
DeclinesListed list union (Err NoMemory) old new = Unit {0}
DeclinesListed list union (Err Declined) old new = (IsTrue new.honest → IsReplacing list union old.world new.world) ⊎ (denials old + 1 < denials new)

-- the files were put back, and then the list was written
pub record HasUnlisted (list : Path) (node : Node) (works : List Work) (old new : World) : Type 0 where
  pub mid : World
  pub back : GoesBack works old mid
  pub replaced : IsReplaced list node mid new

-- at each moment: the files are being put back, or they are back and the list is being written
abbrev pub MayUnlist : Path → Node → List Work → World → World → Type 0
MayUnlist list node works old now = IsGoingBack works old now ⊎ ((mid : World) × GoesBack works old mid × IsReplacing list node mid now)
