-- The lists before a name and behind it: what stays where the list of that name comes, goes or is another.
use Rattle.std.specs.Prelude.{◌≡◌, ℕ, List, filter, length}
use Rattle.std.specs.List.{sum_by}
use Rattle.std.specs.Ordering.{nat_cmp, is_lt}
use Rattle.std.specs.Cmp.Lexicographic.{slice_cmp}
use Rattle.host_core.specs.Paths.{Path}
use Rattle.diversions.specs.Ways.{Ways}
use Rattle.file_lists.specs.Owners.{AreLists, places_in}
use Rattle.file_lists.specs.declared.paths.PackageList.{PackageList}

abbrev pub lists_before : List ℕ → List PackageList → List PackageList
lists_before name lists = filter (λ l. is_lt (slice_cmp nat_cmp l.name name)) lists

abbrev pub lists_behind : List ℕ → List PackageList → List PackageList
lists_behind name lists = filter (λ l. is_lt (slice_cmp nat_cmp name l.name)) lists

-- all but the list of the name are the same
pub record AreSameBeside (name : List ℕ) (old new : List PackageList) : Type 0 where
  pub before : lists_before name new ≡ lists_before name old
  pub behind : lists_behind name new ≡ lists_behind name old

-- these are the places of lists that were the same but for that of the name
pub record HadPlaces (ways : Ways) (name : List ℕ) (lists : List PackageList) (places : List Path) : Type 0 where
  pub before : List PackageList
  pub sound : AreLists before
  pub same : AreSameBeside name before lists
  pub is : places ≡ places_in ways before

-- how many paths they list together
abbrev pub path_count : List PackageList → ℕ
path_count lists = sum_by (λ l. length l.paths) lists
