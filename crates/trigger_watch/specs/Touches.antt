-- What the packages that a command touched hit, unit after unit (deb-triggers).
use Rattle.std.specs.Prelude.{◌&&◌, ℕ, if◌then◌else◌, List, [], ◌++◌, map, Bool, Option, Some, None, find}
use Rattle.std.specs.Str.{bytes_eq}
use Rattle.host_core.specs.World.{World}
use Rattle.file_lists.specs.declared.paths.PackageList.{PackageList}
use Rattle.trigger_interests.specs.Interests.{activations_of}
use Rattle.trigger_interests.specs.declared.interests.Interest.{Interest}
use Rattle.trigger_watch.specs.Hits.{counted_paths, names_hit}
use Rattle.trigger_watch.specs.declared.hits.Hits.{Hits}
use Rattle.trigger_watch.specs.declared.touching.Touch.{Touch}

abbrev pub names_or_none : Option Hits → List (List ℕ)
names_or_none None = []
names_or_none (Some hits) = hits.names

-- what a package hit before
abbrev pub names_before : List Hits → List ℕ → List (List ℕ)
names_before before owner = names_or_none (find (λ hits. bytes_eq hits.«package» owner) before)

-- What a touched package activates without its paths: the names of its own file `triggers` as it is now, and, where its files changed,
-- what it hit before.
abbrev pub names_at : World → List Hits → Touch → List (List ℕ)
names_at w before touch = activations_of w touch.«package» ++ (if touch.files then names_before before touch.«package» else [])

-- What it hits of these interests: by these names, and, where its files changed and files count, by the paths of its list.
abbrev pub hits_at : World → List PackageList → Bool → List Hits → List Interest → Touch → Hits
hits_at w lists by_files before interests touch =
    record { «package» = touch.«package»; names = names_hit (counted_paths lists (by_files && touch.files) touch.«package») (names_at w before touch) interests }

-- the same of all, in the order of the units
abbrev pub touching_hits : World → List PackageList → Bool → List Hits → List Interest → List Touch → List Hits
touching_hits w lists by_files before interests touches = map (hits_at w lists by_files before interests) touches
