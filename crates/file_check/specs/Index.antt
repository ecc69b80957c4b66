-- Which directories a package makes, and which places it ships twice.
use Rattle.std.specs.Prelude.{◌≡◌, ◌&&◌, ◌||◌, Bool, true, false, List, [], ◌∷◌, Option, None, Some}
use Rattle.std.specs.List.{list_any}
use Rattle.std.specs.Str.{bytes_eq}
use Rattle.std.specs.BTreeSet.{contains_text}
use Rattle.host_core.specs.Paths.{Path}
use Rattle.host_core.specs.World.{World, kind_of}
use Rattle.host_core.specs.declared.node.Kind.{Kind}
use Rattle.host_core.specs.declared.node.Kind.TheVariants as kind
use Rattle.host_core.specs.declared.node.Node.{Node}
use Rattle.host_core.specs.declared.node.Node.TheVariants.{File, Dir, Link}
use Rattle.package_files.specs.declared.work.Work.{Work}
use Rattle.file_check.specs.declared.index.Index.{Index}

-- a directory that is shipped is made where nothing stands, and in a file's place
abbrev pub makes_directory : Node → Option Kind → Bool
makes_directory (File b m) had = false
makes_directory (Dir m) None = true
makes_directory (Dir m) (Some kind.File) = true
makes_directory (Dir m) (Some kind.Directory) = false
makes_directory (Dir m) (Some kind.SymbolicLink) = false
makes_directory (Link t) had = false

-- a directory is made at a path
abbrev pub is_made : List Work → World → Path → Bool
is_made works w p = list_any (λ s. bytes_eq p s.target && makes_directory s.node (kind_of (w s.target))) works

-- the same by what was seen at the targets
abbrev pub is_made_by : List Work → Path → Bool
is_made_by works p = list_any (λ s. bytes_eq p s.target && makes_directory s.node s.had) works

-- a path is the place of a shipped one
abbrev pub is_place : List Work → Path → Bool
is_place works p = list_any (λ s. bytes_eq p s.place) works

-- of two shipped ones
abbrev pub is_twice : List Work → Path → Bool
is_twice [] p = false
is_twice (s ∷ ss) p = (bytes_eq p s.place && is_place ss p) || is_twice ss p

-- none of these places is in a set
abbrev pub AllOutside : (Path → Bool) → List Work → Type 0
AllOutside set [] = Unit {0}
AllOutside set (s ∷ ss) = (set s.place ≡ false) × AllOutside set ss

-- the directories that are made, and the places that are shipped twice
pub record IsIndex (works : List Work) (index : Index) : Type 0 where
  pub made : (q : Path) → contains_text index.made q ≡ is_made_by works q
  pub twice : (q : Path) → contains_text index.twice q ≡ is_twice works q
