-- Which paths of a package's list go (Policy 6.6, 6.8).
use Rattle.std.specs.Prelude.{◌||◌, not, ℕ, Bool, List, [], map}
use Rattle.std.specs.List.{list_any}
use Rattle.std.specs.Str.{bytes_eq}
use Rattle.host_core.specs.Paths.{Path}
use Rattle.administration.specs.Places.{home_path, is_within}
use Rattle.diversions.specs.Ways.{Ways, is_led_to, place}
use Rattle.file_lists.specs.declared.paths.PackageList.{PackageList}
use Rattle.file_lists.specs.Owners.{has_other_owner}
use Rattle.file_removal.specs.declared.leaving.Leaving.{Leaving}

-- the list to come has a path of this place
abbrev pub is_place_of : Ways → List ℕ → List Path → Path → Bool
is_place_of ways name paths at = list_any (bytes_eq at) (map (place ways name) paths)

-- a place that stays: the root and each directory to which an alias leads, one in the administration, and one that the list to come
-- or another list has
abbrev pub stays : Ways → List PackageList → List ℕ → (to_come : List Path) → Path → Bool
stays ways lists name to_come at =
    is_led_to ways at || (is_within home_path at || (is_place_of ways name to_come at || has_other_owner ways lists name at))

-- a listed path with its place goes unless that stays, or it is a conffile
abbrev pub leaving_at : Ways → List PackageList → List ℕ → (to_come conffiles : List Path) → Path → Leaving
leaving_at ways lists name to_come conffiles path = record {
  place = place ways name path;
  goes = not (list_any (bytes_eq path) conffiles || stays ways lists name to_come (place ways name path));
}

-- the same of each path of a list
abbrev pub leaving_of : Ways → List PackageList → List ℕ → (to_come conffiles listed : List Path) → List Leaving
leaving_of ways lists name to_come conffiles listed = map (leaving_at ways lists name to_come conffiles) listed
