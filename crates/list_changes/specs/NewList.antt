-- The list of a package behind an unpack (Policy 6.6), or behind the removal of its files (Policy 6.8).
use Rattle.std.specs.Prelude.{◌≡◌, ◌≢◌, ◌⊎◌, ◌↔◌, ◌++◌, ◌∷◌, [], ℕ, List, Contains}
use Rattle.host_core.specs.Paths.{Path}

-- a directory above a path, but the root
abbrev pub IsAbove : Path → Path → Type 0
IsAbove q path = (rest : List ℕ) × (path ≡ q ++ 47 ∷ rest) × (q ≢ [])

-- a directory above one of these paths
abbrev pub IsAboveOne : Path → List Path → Type 0
IsAboveOne q paths = (path : Path) × Contains paths path × IsAbove q path

-- the paths that are shipped, those that stay, and the directories above these
abbrev pub IsNewList : (shipped staying paths : List Path) → Type 0
IsNewList shipped staying paths = (q : Path) → Contains paths q ↔ (Contains shipped q ⊎ (Contains staying q ⊎ IsAboveOne q staying))

-- these paths, and the directories above others
abbrev pub IsWithParents : (paths of listed : List Path) → Type 0
IsWithParents paths of listed = (q : Path) → Contains listed q ↔ (Contains paths q ⊎ IsAboveOne q of)
