-- Names are cleared: what stands there and isn't a directory goes.
use Rattle.std.specs.Prelude.{◌≡◌, ◌⊎◌, Bool, List, Option, Some, None, IsTrue, cond}
use Rattle.std.specs.List.{list_any}
use Rattle.std.specs.Str.{bytes_eq}
use Rattle.host_core.specs.Paths.{Path}
use Rattle.host_core.specs.World.{World, lowered}
use Rattle.host_core.specs.declared.node.Node.{Node}
use Rattle.host_core.specs.declared.node.Node.TheVariants.{File, Dir, Link}

-- what stays of a node: a directory
abbrev pub cleared : Option Node → Option Node
cleared None = None
cleared (Some (File bytes access)) = None
cleared (Some (Dir access)) = Some (Dir access)
cleared (Some (Link target)) = None

abbrev pub is_among : List Path → Path → Bool
is_among names p = list_any (bytes_eq p) names

-- at these names nothing is left but directories, and all else is as before
pub record Cleared (names : List Path) (old new : World) : Type 0 where
  pub each : (p : Path) → new p ≡ cond (is_among names p) (cleared (old p)) (old p)

-- at each moment: a path is as before, or it is one of the names and cleared
pub record IsClearing (names : List Path) (old now : World) : Type 0 where
  pub each : (p : Path) → (now p ≡ old p) ⊎ (IsTrue (is_among names p) × (now p ≡ cleared (old p)))

-- At each moment, of files whose rights are taken before they go, since another name of them may exist: a path is as before, or it is
-- one of the names and lends no rights any more, or is cleared.
pub record IsRetiring (names : List Path) (old now : World) : Type 0 where
  pub each : (p : Path) → (now p ≡ old p) ⊎ (IsTrue (is_among names p) × ((now p ≡ lowered (old p)) ⊎ (now p ≡ cleared (old p))))
