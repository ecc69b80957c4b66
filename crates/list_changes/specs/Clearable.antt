-- Names beside the places of a package that can be cleared.
use Rattle.std.specs.Prelude.{◌||◌, ◌&&◌, Bool, not, List, filter, codes}
use Rattle.std.specs.Str.{bytes_eq}
use Rattle.host_core.specs.Paths.{Path, is_path_text}
use Rattle.administration.specs.Places.{home_path, is_within}

-- a path below the root at which a node can stand that isn't the administration's
abbrev pub is_clearable : Path → Bool
is_clearable q = is_path_text q && not (bytes_eq q (codes "/") || is_within home_path q)

abbrev pub clearable : List Path → List Path
clearable names = filter is_clearable names
