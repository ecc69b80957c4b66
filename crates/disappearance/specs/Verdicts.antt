-- Which packages disappear (Policy 6.6): those of which nothing is left, and which no other package needs.
use Rattle.std.specs.Prelude.{◌≡◌, ◌<◌, ℕ, Bool, true, false, IsTrue, List, Some, None, length}
use Rattle.std.specs.List.{list_all}
use Rattle.host_core.specs.Paths.{Path}
use Rattle.host_core.specs.World.{World, is_directory}
use Rattle.diversions.specs.Ways.{place, Ways}
use Rattle.file_lists.specs.Owners.{paths_of}
use Rattle.file_lists.specs.declared.paths.PackageList.{PackageList}
use Rattle.recorded_packages.specs.Packages.{package_state}
use Rattle.relation_index.specs.Packages.{present_state}
use Rattle.status_records.specs.Records.{record_in}
use Rattle.status_records.specs.declared.record.Record.{Record}
use Rattle.unit_stages.specs.Holding.{Holding}
use Rattle.disappearance.specs.Needed.{IsNeeded, IsUnneeded}
use Rattle.disappearance.specs.declared.losing.Losing.{Losing}

-- at least half-installed
abbrev pub is_there : Record → Bool
is_there r = present_state (package_state r.state)

pub record IsThere (records : List Record) (name : List ℕ) : Type 0 where
  pub entry : Record
  pub found : record_in records name ≡ Some entry
  pub there : is_there entry ≡ true

-- it lists fewer paths than before the unpack
abbrev pub HasLost : List PackageList → Losing → Type 0
HasLost lists l = length (paths_of lists l.name) < l.listed

-- a directory stands at the place of each of these paths
abbrev pub are_directories : Ways → List ℕ → World → List Path → Bool
are_directories ways name w paths = list_all (λ path. is_directory (w (place ways name path))) paths

-- the same of all paths that a package lists
abbrev pub is_empty : Ways → List PackageList → List ℕ → World → Bool
is_empty ways lists name w = are_directories ways name w (paths_of lists name)

-- It disappears: it is there, it has lost paths, nothing but directories is left of it, and it isn't needed.
pub record Goes (incoming : List ℕ) (ways : Ways) (l : Losing) (h : Holding) (w : World) (honest : Bool) : Type 0 where
  pub there : IsThere h.records l.name
  pub lost : HasLost h.lists l
  pub empty : IsTrue honest → is_empty ways h.lists l.name w ≡ true
  pub unneeded : IsUnneeded incoming h.records l.name

-- It stays, by the first of these that fails.
pub data Stays (incoming : List ℕ) (ways : Ways) (l : Losing) (h : Holding) (w : World) (honest : Bool) : Type 0 where
  unrecorded : record_in h.records l.name ≡ None → Stays incoming ways l h w honest
  absent : (r : Record) → record_in h.records l.name ≡ Some r → is_there r ≡ false → Stays incoming ways l h w honest
  whole : IsThere h.records l.name → (HasLost h.lists l → ⊥) → Stays incoming ways l h w honest
  blocked : IsThere h.records l.name → HasLost h.lists l → (IsTrue honest → is_empty ways h.lists l.name w ≡ false) → Stays incoming ways l h w honest
  needed : IsThere h.records l.name → HasLost h.lists l → (IsTrue honest → is_empty ways h.lists l.name w ≡ true) → IsNeeded incoming h.records l.name → Stays incoming ways l h w honest

-- whether it goes
abbrev pub IsVerdict : (incoming : List ℕ) → Ways → Losing → Holding → World → Bool → Bool → Type 0
IsVerdict incoming ways l h w honest true = Goes incoming ways l h w honest
IsVerdict incoming ways l h w honest false = Stays incoming ways l h w honest
