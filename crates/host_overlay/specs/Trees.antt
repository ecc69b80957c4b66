-- A tree, said by a test.
use Rattle.std.specs.Prelude.{◌≡◌, true, ◌∷◌, ◌++◌, IsSome}
use Rattle.host_core.specs.Paths.{Path}
use Rattle.host_core.specs.World.{World, is_directory}

-- below what isn't a directory nothing stands
abbrev pub IsTreeByTest : World → Type 0
IsTreeByTest w = (top rest : Path) → IsSome (w (top ++ 47 ∷ rest)) → is_directory (w top) ≡ true
