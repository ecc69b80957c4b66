-- What a tree ships: all that stands in it beside `DEBIAN`, but directories below the administration's.
use Rattle.std.specs.Prelude.{◌≡◌, ◌⊎◌, ◌||◌, ◌∷◌, [], ℕ, Bool, true, false, List, IsSome, Contains, codes}
use Rattle.std.specs.List.{AllByRecursion}
use Rattle.std.specs.Str.{IsUtf8}
use Rattle.std.specs.Cmp.Lexicographic.{slice_cmp}
use Rattle.std.specs.Ordering.{nat_cmp}
use Rattle.std.specs.declared.cmp.Ordering.TheVariants.{Less}
use Rattle.host_core.specs.Paths.{Path, has_reserved_suffix, has_room, is_below_administration, is_path, is_ship_text}
use Rattle.host_core.specs.Tree.{IsBelow}
use Rattle.host_core.specs.World.{World, IsDirectory}
use Rattle.administration.specs.Directories.{HasBadName}
use Rattle.administration.specs.Places.{is_within}

-- path order is that of bytes
abbrev pub IsBefore : Path → Path → Type 0
IsBefore p q = slice_cmp nat_cmp p q ≡ Less

-- each path is before those after it
abbrev pub AreInOrder : List Path → Type 0
AreInOrder [] = Unit {0}
AreInOrder (p ∷ ps) = AllByRecursion (IsBefore p) ps × AreInOrder ps

-- the control files (Policy 6.1): the directory `DEBIAN`, and what is below it
abbrev pub is_control : Path → Bool
is_control q = is_within (codes "/DEBIAN") q

-- something stands there, beside `DEBIAN`
pub record StandsBeside (w : World) (q : Path) : Type 0 where
  pub below : IsBelow [] q
  pub beside : is_control q ≡ false
  pub there : IsSome (w q)

-- a directory below that of the administration isn't shipped
abbrev pub IsLeftOut : World → Path → Type 0
IsLeftOut w q = IsDirectory (w q) × (is_below_administration q ≡ true)

-- the package ships the path
pub record IsShipped (w : World) (q : Path) : Type 0 where
  pub stands : StandsBeside w q
  pub taken : IsLeftOut w q → ⊥

-- These are all the paths that the package ships, in their order.
pub record AreShipped (w : World) (paths : List Path) : Type 0 where
  pub only : (q : Path) → Contains paths q → IsShipped w q
  pub whole : (q : Path) → IsShipped w q → Contains paths q
  pub order : AreInOrder paths

-- each is a text that names a path
abbrev pub ArePathTexts : List Path → Type 0
ArePathTexts paths = (q : Path) → Contains paths q → IsUtf8 q × (is_path q ≡ true)

-- a text that names a path which a package may ship
abbrev pub IsShipLine : List ℕ → Type 0
IsShipLine text = IsUtf8 text × (is_ship_text text ≡ true)

-- the first path in path order of which P holds
pub record IsFirstPath (P : Path → Type 0) (path : Path) : Type 0 where
  pub holds : P path
  pub first : (q : Path) → P q → IsBefore q path → ⊥

-- P holds of none
abbrev pub HasNoPath : (Path → Type 0) → Type 0
HasNoPath P = (q : Path) → P q → ⊥

-- A path has no room for our endings, or a name in the directory isn't text or makes no path. Of the root only the names are
-- looked at.
abbrev pub IsBadBeside : World → Path → Type 0
IsBadBeside w q = ((q ≡ []) × HasBadName w []) ⊎ (StandsBeside w q × ((has_room q ≡ false) ⊎ HasBadName w q))

-- a shipped path has a reserved suffix, or lies below the administration's directory
abbrev pub is_reserved : Path → Bool
is_reserved q = has_reserved_suffix q || is_below_administration q

abbrev pub IsReserved : World → Path → Type 0
IsReserved w q = IsShipped w q × (is_reserved q ≡ true)
