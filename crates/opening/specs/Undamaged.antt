-- An administration that isn't damaged, whether its directories are there or not.
use Rattle.std.specs.Prelude.{◌≡◌, ℕ, false, ◌∷◌, ◌++◌}
use Rattle.std.specs.List.{AllByRecursion}
use Rattle.host_core.specs.Paths.{Path}
use Rattle.host_core.specs.Tree.{has_slash}
use Rattle.host_core.specs.World.{World}
use Rattle.administration.specs.Places.{tmp_path}
use Rattle.administration.specs.Files.{NoDirectory}
use Rattle.info_format.specs.Stage.{AreReadShort}
use Rattle.opening.specs.Parts.{Part, parts, IsFaulty}

-- nothing is told of a part
abbrev pub HasNoFault : World → Part → Type 0
HasNoFault w part = (file : Path) (line : ℕ) → IsFaulty w part file line → ⊥

-- none of the parts has a fault, no control file is read by a name with an architecture, and what a unit left behind holds no directory
pub record IsUndamaged (w : World) : Type 0 where
  pub sound : AllByRecursion (HasNoFault w) parts
  pub short : AreReadShort w
  pub leftovers : (name : Path) → has_slash name ≡ false → NoDirectory (w (tmp_path ++ 47 ∷ name))
