-- Putting files back, to whichever world they were written from.
use Rattle.std.specs.Prelude.{◌≡◌, ◌⊎◌, List, Option, Some, None}
use Rattle.host_core.specs.Paths.{Path}
use Rattle.host_core.specs.World.{World, moved, IsDirectory, IsLoose}
use Rattle.host_core.specs.declared.node.Access.{Access}
use Rattle.host_core.specs.declared.node.Kind.{Kind}
use Rattle.host_core.specs.declared.node.Kind.TheVariants as kind
use Rattle.host_core.specs.declared.node.Node.{Node}
use Rattle.host_core.specs.declared.node.Node.TheVariants.{Dir}
use Rattle.package_files.specs.declared.work.Work.{Work}
use Rattle.package_files.specs.Files.{PutBack, IsAmid}
use Rattle.package_files.specs.Free.{IsWrittenFrom}

-- the files stand written
abbrev pub CanGoBack : List Work → World → Type 0
CanGoBack works w = (was : World) × IsWrittenFrom works was w

-- whatever they were written from, they are put back to that
abbrev pub GoesBack : List Work → World → World → Type 0
GoesBack works old new = (was : World) → IsWrittenFrom works was old → PutBack works was old new

-- and are whole at each moment
abbrev pub IsGoingBack : List Work → World → World → Type 0
IsGoingBack works old now = (was : World) → IsWrittenFrom works was old → IsAmid works was old now

-- what had stood at the target comes back from the backup
abbrev pub restored : Option Kind → (target backup : Path) → World → World
restored None target backup w = w
restored (Some kind) target backup w = moved w backup target

-- where something had stood, it is at the backup, and no directory is in its way
abbrev pub CanRestore : Option Kind → (target backup : Option Node) → Type 0
CanRestore None target backup = Unit {0}
CanRestore (Some kind) target backup = IsLoose backup × (IsDirectory target → ⊥)

-- a directory was made, where nothing stood or in the place of a file
pub record MakesDirectory (x : Work) : Type 0 where
  pub node : (access : Access) × (x.node ≡ Dir access)
  pub had : (x.had ≡ None) ⊎ (x.had ≡ Some kind.File)
