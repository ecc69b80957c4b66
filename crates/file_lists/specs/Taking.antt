-- Paths that are taken out of the lists of several packages.
use Rattle.std.specs.Prelude.{◌≡◌, ◌≢◌, ◌⊎◌, ℕ, List, Some, Contains}
use Rattle.std.specs.List.{fold}
use Rattle.host_core.specs.Paths.{Path}
use Rattle.host_core.specs.World.{World}
use Rattle.host_core.specs.declared.node.Node.{Node}
use Rattle.administration.specs.Files.{NoDirectory}
use Rattle.administration.specs.Places.{list_path, temporary}
use Rattle.diversions.specs.Ways.{Ways}
use Rattle.file_lists.specs.declared.paths.PackageList.{PackageList}
use Rattle.file_lists.specs.Owners.{paths_of}
use Rattle.file_lists.specs.Writing.{left_paths, list_file, without_places}

-- without what each of these packages lists at these places
abbrev pub without_all : Ways → List Path → List (List ℕ) → List PackageList → List PackageList
without_all ways places names lists = fold (λ ls name. without_places ways places name ls) lists names

-- the file of a package's list without what lies at these places
abbrev pub left_file : Ways → List Path → List PackageList → List ℕ → Node
left_file ways places lists name = list_file (left_paths ways places name (paths_of lists name))

-- a path that is neither a list of these packages nor the temporary name of one
abbrev pub IsNoList : List (List ℕ) → Path → Type 0
IsNoList names q = (name : List ℕ) → Contains names name → (q ≢ list_path name) × (q ≢ temporary (list_path name))

-- at each moment: of each of these packages the old list or the new one; parts of it only at its temporary name
pub record IsTaking (ways : Ways) (places : List Path) (names : List (List ℕ)) (had : List PackageList) (old now : World) : Type 0 where
  pub lists : (name : List ℕ) → Contains names name → (now (list_path name) ≡ old (list_path name)) ⊎ (now (list_path name) ≡ Some (left_file ways places had name))
  pub spares : (name : List ℕ) → Contains names name → NoDirectory (now (temporary (list_path name)))
  pub rest : (q : Path) → IsNoList names q → now q ≡ old q

-- of each of these packages the new list
pub record HasTakenAll (ways : Ways) (places : List Path) (names : List (List ℕ)) (had : List PackageList) (old new : World) : Type 0 where
  pub lists : (name : List ℕ) → Contains names name → new (list_path name) ≡ Some (left_file ways places had name)
  pub rest : (q : Path) → IsNoList names q → new q ≡ old q
