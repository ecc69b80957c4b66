-- The lists of the recorded packages, and who owns a place: those whose list has a path of that place.
use Rattle.std.specs.Prelude.{◌≡◌, ◌↔◌, not, ℕ, Bool, List, [], ◌∷◌, map, filter, cond, true, Contains}
use Rattle.std.specs.List.{flat_map, list_any, AllByRecursion}
use Rattle.std.specs.Str.{bytes_eq}
use Rattle.host_core.specs.Paths.{Path, is_path, has_room}
use Rattle.diversions.specs.Ways.{Ways, place}
use Rattle.name_tables.specs.Order as names
use Rattle.file_lists.specs.Increasing.{AreIncreasing}
use Rattle.file_lists.specs.declared.paths.PackageList.{PackageList}
use Rattle.file_lists.specs.declared.paths.Listed.{Listed}

-- a path that a list may have: one with room for our endings
pub record IsListable (path : Path) : Type 0 where
  pub is : is_path path ≡ true
  pub room : has_room path ≡ true

-- paths as a list has them
pub record AreListPaths (paths : List Path) : Type 0 where
  pub order : AreIncreasing paths
  pub room : AllByRecursion IsListable paths

abbrev pub name_of : PackageList → List ℕ
name_of l = l.name

abbrev pub names_of : List PackageList → List (List ℕ)
names_of = names.names_of name_of

-- the lists of an administration: at most one a name, in the order of names
pub record AreLists (lists : List PackageList) : Type 0 where
  pub names : AreIncreasing (names_of lists)
  pub paths : AllByRecursion (λ l. AreListPaths l.paths) lists

-- the paths that a package lists: none where the name has no list
abbrev pub paths_of : List PackageList → List ℕ → List Path
paths_of [] name = []
paths_of (l ∷ lists) name = cond (bytes_eq name l.name) l.paths (paths_of lists name)

abbrev pub listed : List ℕ → Path → Listed
listed name path = record { name = name; path = path }

-- of one package the paths that lie at a place
abbrev pub owners_in : Ways → Path → PackageList → List Listed
owners_in ways at l = map (listed l.name) (filter (λ path. bytes_eq (place ways l.name path) at) l.paths)

-- each listed path that lies at a place, with its package, list after list
abbrev pub owners_of : Ways → List PackageList → Path → List Listed
owners_of ways lists at = flat_map (owners_in ways at) lists

-- another package's list has a path of this place
abbrev pub has_other_owner : Ways → List PackageList → List ℕ → Path → Bool
has_other_owner ways lists name at = list_any (λ owner. not (bytes_eq owner.name name)) (owners_of ways lists at)

-- the places of one package's paths
abbrev pub places_of_list : Ways → PackageList → List Path
places_of_list ways l = map (place ways l.name) l.paths

-- the places of all listed paths, list after list
abbrev pub places_in : Ways → List PackageList → List Path
places_in ways lists = flat_map (places_of_list ways) lists

-- the same paths, whatever their order
abbrev pub IsSameSet : List Path → List Path → Type 0
IsSameSet old new = (q : Path) → Contains new q ↔ Contains old q
