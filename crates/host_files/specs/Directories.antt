-- The directories in which names changed, by their paths.
use Rattle.std.specs.Prelude.{◌≡◌, ◌⊎◌, true, [], ◌∷◌, ◌++◌, String, Contains}
use Rattle.std.specs.BTreeSet.{BTreeSet, contains_text}
use Rattle.std.specs.declared.alloc.Global.{Global}
use Rattle.host_core.specs.Paths.{Path}

-- the directory that a path stands in; of the root itself that
abbrev pub IsDirectoryOf : Path → Path → Type 0
IsDirectoryOf path directory = ((name : Path) × (path ≡ directory ++ 47 ∷ name) × (Contains name 47 → ⊥)) ⊎ ((Contains path 47 → ⊥) × (directory ≡ []))

-- it is one of these
abbrev pub HasDirectoryOf : BTreeSet (String Global) → Path → Type 0
HasDirectoryOf directories path = (directory : Path) × IsDirectoryOf path directory × (contains_text directories directory ≡ true)
