-- Which aliases a table may have.
use Rattle.std.specs.Prelude.{◌≡◌, ◌&&◌, not, Bool, true, false, codes, List, [], ◌∷◌}
use Rattle.std.specs.Str.{bytes_eq}
use Rattle.host_core.specs.Paths.{Path, is_path, is_path_text}
use Rattle.aliases.specs.Aliases.{Alias, is_alias}

-- a path below the root
abbrev pub is_place : Path → Bool
is_place path = is_path_text path && not (bytes_eq path (codes "/"))

-- each stands below the root and leads to a path, and no two stand at one place
abbrev pub IsTable : List Alias → Type 0
IsTable [] = Unit {0}
IsTable (a ∷ aliases) = (is_place a.place ≡ true) × (is_path a.target ≡ true) × (is_alias aliases a.place ≡ false) × IsTable aliases
