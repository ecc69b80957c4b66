-- A list as it is written, and the lists with another list of one package.
use Rattle.std.specs.Prelude.{ℕ, List, [], ◌∷◌, ◌++◌, map, filter, cond, not, codes, Option, Some, None, Contains, get_or, slice_set}
use Rattle.std.specs.List.{flat_map, list_any}
use Rattle.std.specs.Str.{bytes_eq}
use Rattle.std.specs.Ordering.{nat_cmp, match_ordering}
use Rattle.std.specs.Cmp.Lexicographic.{slice_cmp}
use Rattle.host_core.specs.Paths.{Path}
use Rattle.host_core.specs.World.{World, IsDirectory}
use Rattle.host_core.specs.Nodes.{own_access}
use Rattle.host_core.specs.declared.node.Node.{Node}
use Rattle.host_core.specs.declared.node.Node.TheVariants.{File}
use Rattle.administration.specs.Files.{NoDirectory}
use Rattle.administration.specs.Places.{info_path, list_path, temporary}
use Rattle.diversions.specs.Ways.{Ways, place}
use Rattle.file_lists.specs.declared.paths.PackageList.{PackageList}
use Rattle.file_lists.specs.Index.{Keyed, IsNumbered, KeepsRows, row_for, spot_of}
use Rattle.file_lists.specs.Lists.{root_line}
use Rattle.file_lists.specs.Owners.{names_of, paths_of}

-- the line of a path; that of the root is `/`
abbrev pub line_of : Path → List ℕ
line_of path = cond (bytes_eq path []) (codes "/") path

-- the root's line `/.`, then a line for each path
abbrev pub list_lines : List Path → List (List ℕ)
list_lines paths = root_line ∷ map line_of paths

abbrev pub list_text : List Path → List ℕ
list_text paths = flat_map (λ line. line ++ 10 ∷ []) (list_lines paths)

-- the file of a list
abbrev pub list_file : List Path → Node
list_file paths = File (list_text paths) (own_access 0o644)

abbrev pub package_list : List ℕ → List Path → PackageList
package_list name paths = record { name = name; paths = paths }

-- with the list of a package, in place of its old one if it had one
abbrev pub with_list : List ℕ → List Path → List PackageList → List PackageList
with_list name paths [] = package_list name paths ∷ []
with_list name paths (l ∷ lists) = match_ordering (slice_cmp nat_cmp name l.name) (package_list name paths ∷ l ∷ lists) (package_list name paths ∷ lists) (l ∷ with_list name paths lists)

-- of a package's paths those that lie at none of these places
abbrev pub left_paths : Ways → List Path → List ℕ → List Path → List Path
left_paths ways places name paths = filter (λ path. not (list_any (bytes_eq (place ways name path)) places)) paths

-- without what a package lists at these places
abbrev pub without_places : Ways → List Path → List ℕ → List PackageList → List PackageList
without_places ways places name lists = with_list name (left_paths ways places name (paths_of lists name)) lists

-- with other paths in the list that stands there
abbrev pub with_paths_at : ℕ → List Path → List PackageList → List PackageList
with_paths_at at paths lists = slice_set lists at (package_list (get_or (names_of lists) at []) paths)

-- the list of a package can be written: its directory is there, and no directory in its place or at its temporary name
pub record IsListReady (name : List ℕ) (w : World) : Type 0 where
  pub info : IsDirectory (w info_path)
  pub target : NoDirectory (w (list_path name))
  pub spare : NoDirectory (w (temporary (list_path name)))

-- the paths of a list were entered into the index, or the index was given up
abbrev pub IsEntered : Option Keyed → List Path → ℕ → Option Keyed → Type 0
IsEntered old paths slot None = Unit {0}
IsEntered None paths slot (Some index) = ⊥
IsEntered (Some old) paths slot (Some index) = KeepsRows old index × ((number : ℕ) (path : Path) → IsNumbered paths number path → Contains (row_for index path) (spot_of slot number))
