-- Which names works have, and in which order they stand.
use Rattle.std.specs.Prelude.{◌≡◌, ◌⊎◌, ℕ, true, List, [], ◌∷◌, ◌++◌, Contains, IsTrue}
use Rattle.std.specs.Ordering.{is_lt, nat_cmp}
use Rattle.std.specs.Cmp.Lexicographic.{slice_cmp}
use Rattle.host_core.specs.declared.node.Access.{Access}
use Rattle.host_core.specs.declared.node.Node.TheVariants.{Dir}
use Rattle.host_core.specs.declared.suffix.Suffix.TheVariants.{New, Tmp, Inst}
use Rattle.host_core.specs.Paths.{Path, is_ship_text}
use Rattle.host_core.specs.Suffixes.{suffix_text}
use Rattle.host_core.specs.World.{World, IsDirectory}
use Rattle.package_files.specs.declared.work.Work.{Work}
use Rattle.package_files.specs.Files.{Each, is_written}

-- the names of a place that a package may have
pub record IsNamed (x : Work) : Type 0 where
  pub place : is_ship_text x.place ≡ true
  pub target : (x.target ≡ x.place) ⊎ (x.target ≡ x.place ++ suffix_text New)
  pub backup : x.backup ≡ x.place ++ suffix_text Tmp
  pub fresh : x.fresh ≡ x.place ++ suffix_text Inst

-- the place of the first comes before that of the second, in the order of bytes
abbrev pub IsBefore : Work → Work → Type 0
IsBefore x y = is_lt (slice_cmp nat_cmp x.place y.place) ≡ true

-- in the order of their places, no two of which are the same
abbrev pub AllInOrder : List Work → Type 0
AllInOrder [] = Unit {0}
AllInOrder (x ∷ xs) = Each (IsBefore x) xs × AllInOrder xs

-- the path is that of a directory that is made
abbrev pub HasMaker : List Work → World → Path → Type 0
HasMaker [] w front = ⊥
HasMaker (y ∷ ys) w front =
    ((y.target ≡ front) × ((access : Access) × (y.node ≡ Dir access)) × IsTrue (is_written y.node (w y.target))) ⊎ HasMaker ys w front

-- its parent is a directory or becomes one
abbrev pub IsHomed : List Work → World → Work → Type 0
IsHomed works w x = (front name : List ℕ) × (x.place ≡ front ++ 47 ∷ name) × (Contains name 47 → ⊥) × (IsDirectory (w front) ⊎ HasMaker works w front)
