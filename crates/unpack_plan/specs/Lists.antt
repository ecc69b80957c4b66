-- What the package lists before, while and after its files are written (Policy 6.6), and which of the old paths go.
use Rattle.std.specs.Prelude.{◌↔◌, ◌⊎◌, ℕ, not, List, Option, map, filter, Contains}
use Rattle.host_core.specs.Paths.{Path}
use Rattle.diversions.specs.Ways.{Ways}
use Rattle.file_lists.specs.Owners.{AreListPaths}
use Rattle.file_lists.specs.declared.paths.PackageList.{PackageList}
use Rattle.file_removal.specs.declared.leaving.Leaving.{Leaving}
use Rattle.list_changes.specs.Leaving.{leaving_of}
use Rattle.list_changes.specs.NewList.{IsNewList}
use Rattle.package_tree.specs.ShipMap.{paths_of}
use Rattle.package_tree.specs.declared.shipped.Shipped.{Shipped}
use Rattle.status_records.specs.declared.entries.ConffileEntry.{ConffileEntry}
use Rattle.status_records.specs.declared.record.Record.{Record}
use Rattle.unpack_plan.specs.Records.{entries_of, is_shipped}

abbrev pub entry_paths : List ConffileEntry → List Path
entry_paths ways = map (λ e. e.path) ways

-- conffiles that the record keeps beside what is shipped: obsolete ones, and those that go with the upgrade
abbrev pub staying : List Shipped → List ConffileEntry → List Path
staying files ways = entry_paths (filter (λ e. not (is_shipped files e.path)) ways)

-- the paths of both, each once, in order
pub record IsUnion (listed shipped union : List Path) : Type 0 where
  pub paths : AreListPaths union
  pub are : (q : Path) → Contains union q ↔ (Contains listed q ⊎ Contains shipped q)

-- the shipped paths, the conffiles that stay, and the directories above these, in order
pub record IsAfter (files : List Shipped) (fresh : Record) (paths : List Path) : Type 0 where
  pub paths_are : AreListPaths paths
  pub are : IsNewList (paths_of files) (staying files fresh.conffiles) paths

-- Of the old paths those go that aren't in the new list, but for conffiles of the record found (Policy 6.6, step 6).
abbrev pub old_leaving : Ways → List PackageList → List ℕ → Option Record → (new_list listed : List Path) → List Leaving
old_leaving ways lists name found new_list listed = leaving_of ways lists name new_list (entry_paths (entries_of found)) listed
