-- The directory that a path lies in.
use Rattle.std.specs.Prelude.{[], ◌∷◌, cond}
use Rattle.host_core.specs.Paths.{Path}
use Rattle.host_core.specs.Tree.{has_slash}

-- what stands before the last slash
abbrev pub front_of : Path → Path
front_of [] = []
front_of (b ∷ path) = cond (has_slash path) (b ∷ front_of path) []
