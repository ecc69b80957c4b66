-- What the file row leaves and its undo, whatever the rows around them.
use Rattle.std.specs.Prelude.{◌≡◌, ◌⊎◌, ◌-◌, List, Option, Some, None, Contains, length, map, take}
use Rattle.host_core.specs.Paths.{Path}
use Rattle.host_core.specs.World.{World}
use Rattle.host_core.specs.declared.node.Node.{Node}
use Rattle.undo_rows.specs.declared.fall.StepFault.{StepFault}
use Rattle.undo_rows.specs.declared.fall.StepFault.TheVariants.{LinkParent, NoParent, DirInWay, Clash, DiversionTarget, Declined}
use Rattle.file_check.specs.Rearranged.{IsRearranged}
use Rattle.package_files.specs.Free.{IsWrittenFrom}
use Rattle.package_files.specs.declared.work.Work.{Work}
use Rattle.listed_files.specs.Listing.{HasListed, MayTurnBack}

abbrev pub places_of : List Work → List Path
places_of works = map (λ (x : Work). x.place) works

-- the list was written and then the files, which can be put back
pub record HasWrittenRow (list : Path) (node : Node) (works : List Work) (old new : World) : Type 0 where
  pub listed : HasListed list node works old new
  pub from : IsWrittenFrom works listed.mid new

-- at each moment: nothing was done, or the list and the files are being written, and put back where a step is declined, the works
-- in some order
abbrev pub MayWriteRow : Path → (union listed : Node) → List Work → World → World → Type 0
MayWriteRow list union listed works old now = (now ≡ old) ⊎ ((ordered : List Work) × IsRearranged works ordered × MayTurnBack list union listed ordered old now)

-- What holds by the answer of the file row: all is written; or a step was declined, and it has turned back; or a path has a fault,
-- and nothing was done.
abbrev pub ByAnswer : Option StepFault → (wrote turned stopped : Type 0) → Type 0
ByAnswer None wrote turned stopped = wrote
ByAnswer (Some (LinkParent path)) wrote turned stopped = stopped
ByAnswer (Some (NoParent path)) wrote turned stopped = stopped
ByAnswer (Some (DirInWay path)) wrote turned stopped = stopped
ByAnswer (Some (Clash path owner)) wrote turned stopped = stopped
ByAnswer (Some (DiversionTarget path diverter)) wrote turned stopped = stopped
ByAnswer (Some (Declined path)) wrote turned stopped = turned

-- it is the path of one of these works
abbrev pub IsPathOf : List Work → Path → Type 0
IsPathOf works path = (x : Work) × Contains works x × (path ≡ x.path)

-- without the last of these places, one for each work
abbrev pub places_before : List Path → List Work → List Path
places_before places works = take (length places - length works) places
