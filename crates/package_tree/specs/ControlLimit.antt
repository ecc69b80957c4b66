-- The limit of the files of `DEBIAN` that are read.
use Rattle.std.specs.Prelude.{◌≡◌, ◌<◌, ◌++◌, ◌∷◌, true, List, ℕ, Option, Some, None, length}
use Rattle.std.specs.List.{AllByRecursion}
use Rattle.host_core.specs.Paths.{Path}
use Rattle.host_core.specs.World.{World}
use Rattle.host_core.specs.declared.node.Node.{Node}
use Rattle.host_core.specs.declared.node.Node.TheVariants.{File, Dir, Link}
use Rattle.package_tree.specs.OtherFiles.{control_member}
use Rattle.package_tree.specs.OtherNames.{is_other_name}
use Rattle.package_tree.specs.Shipped.{IsFirstPath}
use Rattle.package_tree.specs.declared.other_file.OtherFile.{OtherFile}

-- a file of more than 16 MiB
abbrev pub IsOverFile : Node → Type 0
IsOverFile (File bytes access) = 16777216 < length bytes
IsOverFile (Dir access) = ⊥
IsOverFile (Link target) = ⊥

-- such a file stands there
abbrev pub IsOver : Option Node → Type 0
IsOver None = ⊥
IsOver (Some node) = IsOverFile node

-- at none of these paths such a file stands
abbrev pub HasNoneOver : World → List Path → Type 0
HasNoneOver w paths = AllByRecursion (λ path. IsOver (w path) → ⊥) paths

-- the first of these paths where one stands
pub record IsFirstOver (w : World) (paths : List Path) (path : Path) : Type 0 where
  pub before : List Path
  pub after : List Path
  pub is : paths ≡ before ++ path ∷ after
  pub over : IsOver (w path)
  pub first : HasNoneOver w before

-- a file of `DEBIAN` that would be stored as it is, by this name, is such a file
abbrev pub IsOverOther : World → List ℕ → Type 0
IsOverOther w name = (is_other_name name ≡ true) × IsOver (w (control_member name))

-- the path of the first of them, in the order of their names
abbrev pub IsFirstOverOther : World → Path → Type 0
IsFirstOverOther w path = (name : List ℕ) × (path ≡ control_member name) × IsFirstPath (IsOverOther w) name

-- none of some files is one
abbrev pub AreNoneOver : List OtherFile → Type 0
AreNoneOver others = AllByRecursion (λ other. IsOverFile other.node → ⊥) others

-- this is the first of them that is
pub record IsFirstOverAmong (others : List OtherFile) (other : OtherFile) : Type 0 where
  pub front : List OtherFile
  pub rest : List OtherFile
  pub is : others ≡ front ++ other ∷ rest
  pub over : IsOverFile other.node
  pub first : AreNoneOver front

-- what is told of them: that none is, or the path of the first
abbrev pub IsOverTold : List OtherFile → Option Path → Type 0
IsOverTold others None = AreNoneOver others
IsOverTold others (Some path) = (other : OtherFile) × (path ≡ control_member other.name) × IsFirstOverAmong others other
