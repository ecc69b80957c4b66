-- Which triggers packages hit (deb-triggers), of those in which one is interested.
use Rattle.std.specs.Prelude.{◌||◌, ℕ, Bool, if◌then◌else◌, List, [], map, filter}
use Rattle.host_core.specs.Paths.{Path}
use Rattle.host_core.specs.World.{World}
use Rattle.file_lists.specs.Owners.{paths_of}
use Rattle.file_lists.specs.declared.paths.PackageList.{PackageList}
use Rattle.trigger_interests.specs.Hits.{is_hit_among}
use Rattle.trigger_interests.specs.Interests.{activations_of}
use Rattle.trigger_interests.specs.declared.interests.Interest.{Interest}
use Rattle.trigger_watch.specs.Names.{is_among}
use Rattle.trigger_watch.specs.declared.hits.Hits.{Hits}

-- the paths of a package that count: those of its list, where files count at all
abbrev pub counted_paths : List PackageList → Bool → List ℕ → List Path
counted_paths lists by_files owner = if by_files then paths_of lists owner else []

-- a trigger is hit by paths, or activated beside them
abbrev pub is_hit : List Path → List (List ℕ) → List ℕ → Bool
is_hit paths activated name = is_hit_among paths name || is_among activated name

-- the names of the interests that are hit, in their order
abbrev pub names_hit : List Path → List (List ℕ) → List Interest → List (List ℕ)
names_hit paths activated interests = filter (is_hit paths activated) (map (λ interest. interest.name) interests)

-- what a package hits: by its paths that count, and by what it activates itself
abbrev pub hits_by : World → List PackageList → Bool → List Interest → List ℕ → Hits
hits_by w lists by_files interests owner = record { «package» = owner; names = names_hit (counted_paths lists by_files owner) (activations_of w owner) interests }

-- the same of packages, in their order
abbrev pub hits_of : World → List PackageList → Bool → List Interest → List (List ℕ) → List Hits
hits_of w lists by_files interests packages = map (hits_by w lists by_files interests) packages
