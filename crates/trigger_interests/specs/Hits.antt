-- Which triggers paths activate (deb-triggers): those whose names are paths.
use Rattle.std.specs.Prelude.{◌&&◌, not, ℕ, Bool, nat_eq, List, ◌++◌, map, filter, codes}
use Rattle.std.specs.List.{list_any, starts_with}
use Rattle.host_core.specs.Paths.{Path}
use Rattle.administration.specs.Places.{is_within}
use Rattle.trigger_interests.specs.declared.interests.Interest.{Interest}

-- a trigger whose name begins with a slash is hit by the path of that name, and by each path below it; another by none
abbrev pub is_hit : List ℕ → Path → Bool
is_hit name path = starts_with nat_eq name (codes "/") && is_within name path

-- whether another path of a list lies below this one: then it is a directory's
abbrev pub is_directory : List Path → Path → Bool
is_directory paths path = list_any (λ other. starts_with nat_eq other (path ++ codes "/")) paths

-- the other paths of a list
abbrev pub files_of : List Path → List Path
files_of paths = filter (λ path. not (is_directory paths path)) paths

-- one of these hits it; directories hit nothing
abbrev pub is_hit_among : List Path → List ℕ → Bool
is_hit_among paths name = list_any (is_hit name) (files_of paths)

-- a mark for each interest: whether it is hit
abbrev pub hits_of : List Interest → List Path → List Bool
hits_of interests paths = map (λ interest. is_hit_among paths interest.name) interests
