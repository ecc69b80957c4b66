-- The index by the keys of places: each listed path stands in the row of its key. A row may have more.
use Rattle.std.specs.Prelude.{◌≡◌, ◌⊎◌, ◌||◌, ◌+◌, ◌*◌, ◌%◌, ◌<◌, ◌≤◌, ◌++◌, ◌∷◌, ℕ, List, [], map, cond, if◌then◌else◌, nat_lt, nat_le, Option, Some, None, Contains, length, get_or, take}
use Rattle.std.specs.List.{fold, flat_map, insert}
use Rattle.std.specs.Str.{bytes_eq}
use Rattle.host_core.specs.Paths.{Path}
use Rattle.aliases.specs.Aliases.{Alias, resolved}
use Rattle.diversions.specs.Ways.{Ways, place}
use Rattle.file_lists.specs.declared.paths.PackageList.{PackageList}
use Rattle.file_lists.specs.declared.paths.Listed.{Listed}
use Rattle.file_lists.specs.declared.spot.Spot.{Spot}
use Rattle.file_lists.specs.Owners.{listed}

-- a number of a path's bytes
abbrev pub path_number : List ℕ → ℕ
path_number text = fold (λ number byte. (number * 16777619 + byte) % 4294967296) 0 text

-- where listed paths stand, row by row, and the aliases by which their keys were made
pub record Keyed : Type 0 where
  pub rows : List (List Spot)
  pub aliases : List Alias

-- the row of a key
abbrev pub row_of : List (List Spot) → Path → List Spot
row_of rows key = get_or rows (path_number key % length rows) []

-- the row of the key of a path
abbrev pub row_for : Keyed → Path → List Spot
row_for index path = row_of index.rows (resolved index.aliases path)

abbrev pub spot_of : ℕ → ℕ → Spot
spot_of list path = record { list = list; path = path }

-- the paths of the list of this number
abbrev pub paths_of_slot : List PackageList → ℕ → List Path
paths_of_slot lists slot = get_or (map (λ l. l.paths) lists) slot []

-- the path of this number is this one
abbrev pub IsNumbered : List Path → ℕ → Path → Type 0
IsNumbered paths number path = (number < length paths) × (get_or paths number path ≡ path)

-- a path of the list of this number stands there
abbrev pub StandsAt : List PackageList → ℕ → ℕ → Path → Type 0
StandsAt lists slot number path = IsNumbered (paths_of_slot lists slot) number path

-- no listed path is missing from the row of its key
abbrev pub IsComplete : Keyed → List PackageList → Type 0
IsComplete index lists = (slot number : ℕ) (path : Path) → StandsAt lists slot number path → Contains (row_for index path) (spot_of slot number)

-- no spot left a row
pub record KeepsRows (old new : Keyed) : Type 0 where
  pub aliases : new.aliases ≡ old.aliases
  pub rows : (key : Path) (spot : Spot) → Contains (row_of old.rows key) spot → Contains (row_of new.rows key) spot

-- the number of a list once another has come to this place; there were so many lists
abbrev pub list_moved : ℕ → ℕ → ℕ → ℕ
list_moved at count list = if nat_lt list at || nat_le count list then list else list + 1

abbrev pub spot_moved : ℕ → ℕ → Spot → Spot
spot_moved at count spot = spot_of (list_moved at count spot.list) spot.path

-- each spot is that of its list once another has come to this place
pub record HasRoom (at count : ℕ) (old new : Keyed) : Type 0 where
  pub aliases : new.aliases ≡ old.aliases
  pub rows : new.rows ≡ map (map (spot_moved at count)) old.rows

-- so it is in the index, if there is one
abbrev pub HaveRoom : ℕ → ℕ → Option Keyed → Option Keyed → Type 0
HaveRoom at count None None = Unit {0}
HaveRoom at count None (Some new) = ⊥
HaveRoom at count (Some old) None = ⊥
HaveRoom at count (Some old) (Some new) = HasRoom at count old new

-- a list came to this place among so many
pub record HasComeIn (at count : ℕ) (old new : List PackageList) : Type 0 where
  pub list : PackageList
  pub within : at ≤ length old
  pub counted : count ≡ length old
  pub is : new ≡ insert old at list

-- the index, if there is one, is that of these lists
abbrev pub IsIndexed : Option Keyed → List PackageList → Type 0
IsIndexed None lists = Unit {0}
IsIndexed (Some index) lists = IsComplete index lists

-- the keys of a place: what lies there has one of these
abbrev pub AreKeys : Ways → Path → List Path → Type 0
AreKeys ways at keys = (name : List ℕ) (path : Path) → place ways name path ≡ at → Contains keys (resolved ways.aliases path)

-- of a path the owner of a place, if it lies there
abbrev pub owner_if : Ways → Path → List ℕ → Path → List Listed
owner_if ways at name path = cond (bytes_eq (place ways name path) at) (listed name path ∷ []) []

-- path by path of a list
abbrev pub owners_by_path : Ways → Path → PackageList → List (List Listed)
owners_by_path ways at l = map (owner_if ways at l.name) l.paths

-- of the list of this number, path by path
abbrev pub owners_of_slot : Ways → Path → List PackageList → ℕ → List (List Listed)
owners_of_slot ways at lists slot = get_or (map (owners_by_path ways at) lists) slot []

-- the owner at a spot, if one is there
abbrev pub owner_at : Ways → Path → List PackageList → Spot → List Listed
owner_at ways at lists spot = get_or (owners_of_slot ways at lists spot.list) spot.path []

-- each spot that has an owner is one of these
abbrev pub HasOwners : Ways → Path → List PackageList → List Spot → Type 0
HasOwners ways at lists spots = (spot : Spot) → Contains spots spot ⊎ (owner_at ways at lists spot ≡ [])

-- owners, one list of them after another
abbrev pub joined : List (List Listed) → List Listed
joined = flat_map (λ owners. owners)

-- the owners before a path of the list of this number
abbrev pub owners_before : Ways → Path → List PackageList → ℕ → ℕ → List Listed
owners_before ways at lists slot number = flat_map joined (take slot (map (owners_by_path ways at) lists)) ++ joined (take number (owners_of_slot ways at lists slot))

-- a spot isn't before the path of this number in the list of this number
abbrev pub IsFrom : ℕ → ℕ → Spot → Type 0
IsFrom slot number spot = (slot < spot.list) ⊎ ((slot ≡ spot.list) × (number ≤ spot.path))

-- The owners at the first spots were taken; those at the others are at spots that are left.
pub record IsGathering (ways : Ways) (at : Path) (lists : List PackageList) (left : List Spot) (owners : List Listed) : Type 0 where
  pub slot : ℕ
  pub number : ℕ
  pub so_far : owners ≡ owners_before ways at lists slot number
  pub above : (spot : Spot) → Contains left spot → IsFrom slot number spot
  pub rest : (spot : Spot) → IsFrom slot number spot → Contains left spot ⊎ (owner_at ways at lists spot ≡ [])
