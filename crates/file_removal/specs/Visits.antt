-- A removal comes to one listed path.
use Rattle.std.specs.Prelude.{◌≡◌, ◌⊎◌, Bool, false, None, IsTrue}
use Rattle.host_core.specs.Paths.{Path}
use Rattle.host_core.specs.World.{World, IsBare, IsDirectory, IsLoose}
use Rattle.administration.specs.Files.{KeepsBeside}
use Rattle.file_removal.specs.Removal.{IsGoing}
use Rattle.file_removal.specs.declared.leaving.Leaving.{Leaving}

-- it may go, and a file or link stands there, where more than directories are taken, or a directory with nothing below it
abbrev pub IsTakable : Bool → World → Leaving → Type 0
IsTakable directories_only w x = IsTrue x.goes × (((directories_only ≡ false) × IsLoose (w x.place)) ⊎ (IsDirectory (w x.place) × IsBare w x.place))

-- what can be taken is gone, but for a directory whose removal was declined, and all else is as before
pub record IsVisited (declined : Path → Type 0) (directories_only : Bool) (x : Leaving) (old new : World) : Type 0 where
  pub target : (IsTakable directories_only old x × (new x.place ≡ None))
      ⊎ ((new x.place ≡ old x.place) × ((IsTakable directories_only old x → ⊥) ⊎ (IsDirectory (old x.place) × declined x.place)))
  pub rest : KeepsBeside x.place old new

-- at each moment: all is as before, or what can be taken is going
pub record IsVisiting (directories_only : Bool) (x : Leaving) (old now : World) : Type 0 where
  pub target : (now x.place ≡ old x.place) ⊎ (IsTakable directories_only old x × IsGoing (old x.place) (now x.place))
  pub rest : KeepsBeside x.place old now
