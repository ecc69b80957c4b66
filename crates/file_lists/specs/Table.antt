-- The table of the lists, name by name.
use Rattle.std.specs.Prelude.{◌≡◌, ℕ, List, [], cond, get_or}
use Rattle.std.specs.Str.{bytes_eq}
use Rattle.host_core.specs.Paths.{Path}
use Rattle.name_tables.specs.Order.{IsThere}
use Rattle.file_lists.specs.declared.paths.PackageList.{PackageList}
use Rattle.file_lists.specs.Owners.{name_of, names_of, paths_of}

-- the list of a name stands there
abbrev pub IsAt : List PackageList → List ℕ → ℕ → Type 0
IsAt = IsThere name_of

-- the list that stands there has other paths
pub record IsSet (at : ℕ) (paths : List Path) (old new : List PackageList) : Type 0 where
  pub names : names_of new ≡ names_of old
  pub each : (name : List ℕ) → paths_of new name ≡ cond (bytes_eq name (get_or (names_of old) at [])) paths (paths_of old name)
