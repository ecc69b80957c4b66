-- The packages that may disappear in an unpack (Policy 7.6.1).
use Rattle.std.specs.Prelude.{ℕ, Bool, not, List, filter, length, map}
use Rattle.std.specs.List.{list_any}
use Rattle.std.specs.Str.{bytes_eq}
use Rattle.disappearance.specs.declared.losing.Losing.{Losing}
use Rattle.file_lists.specs.Owners.{paths_of}
use Rattle.file_lists.specs.declared.paths.PackageList.{PackageList}
use Rattle.unpack_relations.specs.declared.beside.Beside.{Beside}

abbrev pub is_among : List (List ℕ) → List ℕ → Bool
is_among names name = list_any (bytes_eq name) names

-- a package that isn't removed itself
abbrev pub is_spared : List (List ℕ) → List ℕ → Bool
is_spared conflicting name = not (is_among conflicting name)

-- with how many paths it lists
abbrev pub losing_of : List PackageList → List ℕ → Losing
losing_of lists name = record { name = name; listed = length (paths_of lists name) }

-- the replaced packages, but for those that conflict
abbrev pub losing_beside : List PackageList → Beside → List Losing
losing_beside lists beside = map (losing_of lists) (filter (is_spared beside.conflicting) beside.replaced)
