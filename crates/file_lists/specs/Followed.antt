-- Listed paths behind links to directories.
use Rattle.std.specs.Prelude.{◌≡◌, ◌++◌, ◌∷◌, ℕ, Bool, true, List, [], IsTrue, Contains}
use Rattle.std.specs.List.{AllByRecursion, flat_map}
use Rattle.host_core.specs.Paths.{Path}
use Rattle.host_core.specs.World.{World}
use Rattle.aliases.specs.Aliases.{Alias}
use Rattle.aliases.specs.Links.{above}
use Rattle.aliases.specs.Reading.{AreAliasesIn, Grows, IsWhole}
use Rattle.diversions.specs.Diverted.{Diverted}
use Rattle.diversions.specs.Ways.{Ways}
use Rattle.diversions.specs.declared.entry.Diversion.{Diversion}
use Rattle.file_lists.specs.Owners.{paths_of}
use Rattle.file_lists.specs.declared.paths.PackageList.{PackageList}

-- The aliases are ones of this world, and each listed path is followed to where it leads there.
pub record AreFollowed (lists : List PackageList) (ways : Ways) (w : World) : Type 0 where
  pub aliases : AreAliasesIn w ways.aliases
  pub whole : (name : List ℕ) (path : Path) → Contains (paths_of lists name) path → IsWhole w path ways.aliases

-- Aliases were added, which are ones of this world where the answers were true; nothing else has changed.
pub record HasMoreAliases (honest : Bool) (w : World) (old new : Diverted) : Type 0 where
  pub added : List Alias
  pub kept : new ≡ record old { ways = record old.ways { aliases = old.ways.aliases ++ added } }
  pub sound : IsTrue honest → AreAliasesIn w added

-- Where the aliases are ones of the world, each path in one of these directories is followed to where it leads there.
abbrev pub ArePassed : List Alias → (Path → Bool) → World → Type 0
ArePassed aliases directories w = AreAliasesIn w aliases → (path : Path) → directories (above path) ≡ true → IsWhole w path aliases

-- each of these paths is followed to where it leads in the world
abbrev pub AreWhole : World → List Path → List Alias → Type 0
AreWhole w paths aliases = AllByRecursion (λ path. IsWhole w path aliases) paths

-- path by path there are more: each new one is a link of this world to a directory, and stands above the path
abbrev pub GrowAlong : World → List Path → List Alias → List Alias → Type 0
GrowAlong w [] old new = new ≡ old
GrowAlong w (path ∷ paths) old new = (mid : List Alias) × Grows true w path old mid × GrowAlong w paths mid new

-- the paths of diversions, each with its target
abbrev pub diverted_paths : List Diversion → List Path
diverted_paths entries = flat_map (λ d. d.path ∷ d.target ∷ []) entries
