-- Links to directories, by the places where they stand, and the paths behind them.
use Rattle.std.specs.Prelude.{◌≡◌, ◌⊎◌, ℕ, Bool, false, nat_eq, cond, List, [], ◌∷◌, ◌++◌}
use Rattle.std.specs.List.{list_any, AllByRecursion}
use Rattle.std.specs.Str.{bytes_eq}
use Rattle.host_core.specs.Paths.{Path, is_ship_text}
use Rattle.host_core.specs.Tree.{IsBelow}

-- a link, by the place where it stands, and the directory that it leads to
pub record Alias : Type 0 where
  pub place : Path
  pub target : Path

-- whether one of these aliases stands at the path
abbrev pub is_alias : List Alias → Path → Bool
is_alias aliases path = list_any (λ a. bytes_eq path a.place) aliases

-- whether one of these aliases leads to the path
abbrev pub is_target : List Alias → Path → Bool
is_target aliases path = list_any (λ a. bytes_eq path a.target) aliases

-- where an alias leads; any other path is itself
abbrev pub led : List Alias → Path → Path
led [] path = path
led (a ∷ aliases) path = cond (bytes_eq path a.place) a.target (led aliases path)

-- a way with one byte more: at a slash the alias that stands there is followed
abbrev pub gone : List Alias → Path → ℕ → Path
gone aliases way b = cond (nat_eq b 47) (led aliases way ++ 47 ∷ []) (way ++ b ∷ [])

-- a way with more bytes
abbrev pub way_from : List Alias → Path → List ℕ → Path
way_from aliases way [] = way
way_from aliases way (b ∷ rest) = way_from aliases (gone aliases way b) rest

-- a path with the aliases above it followed, from the root on
abbrev pub way_to : List Alias → Path → Path
way_to aliases path = way_from aliases [] path

-- the same, and the alias at the path itself followed
abbrev pub followed : List Alias → Path → Path
followed aliases path = led aliases (way_to aliases path)

-- the place of a path: followed, unless that is no path that a package may ship; then the path itself
abbrev pub resolved : List Alias → Path → Path
resolved aliases path = cond (is_ship_text (followed aliases path)) (followed aliases path) path

-- a path, or a directory above it
abbrev pub IsOn : Path → Path → Type 0
IsOn q path = (q ≡ path) ⊎ IsBelow q path

-- no alias stands at the path or above it
abbrev pub IsFree : List Alias → Path → Type 0
IsFree aliases path = (q : Path) → IsOn q path → is_alias aliases q ≡ false

-- no alias stands at the target of one or above it
abbrev pub IsFlat : List Alias → Type 0
IsFlat aliases = AllByRecursion (λ a. IsFree aliases a.target) aliases
