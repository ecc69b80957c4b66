-- The map of what a package ships, and its limits.
use Rattle.std.specs.Prelude.{◌≡◌, ◌<◌, ◌⊎◌, ◌&&◌, ℕ, Bool, List, Option, Some, Contains, length, map}
use Rattle.std.specs.List.{AllByRecursion}
use Rattle.host_core.specs.Paths.{Path}
use Rattle.host_core.specs.World.{World, IsFile, is_file, kind_of}
use Rattle.host_core.specs.declared.node.Access.{Access}
use Rattle.host_core.specs.declared.node.Kind.TheVariants as kind
use Rattle.host_core.specs.declared.node.Node.{Node}
use Rattle.host_core.specs.declared.node.Node.TheVariants.{File}
use Rattle.package_tree.specs.Shipped.{AreInOrder, AreShipped, IsBefore, IsFirstPath, IsShipped}
use Rattle.package_tree.specs.declared.collecting.Excess.{Excess}
use Rattle.package_tree.specs.declared.collecting.Excess.TheVariants.{Large, Many}
use Rattle.package_tree.specs.declared.shipped.Shipped.{Shipped}

abbrev pub paths_of : List Shipped → List Path
paths_of files = map (λ file. file.path) files

-- all paths that the package ships, in path order, each with what stands there
pub record AreFiles (w : World) (files : List Shipped) : Type 0 where
  pub paths : AreShipped w (paths_of files)
  pub nodes : AllByRecursion (λ file. w file.path ≡ Some file.node) files

-- the package ships a file there
pub record ShipsFile (w : World) (q : Path) : Type 0 where
  pub shipped : IsShipped w q
  pub file : kind_of (w q) ≡ Some kind.File

-- a shipped file at one of some paths
abbrev pub is_file_in : (Path → Bool) → Shipped → Bool
is_file_in P file = is_file file.node && P file.path

-- one of these is a file at this path
abbrev pub HasFileAt : List Shipped → Path → Type 0
HasFileAt files q = (file : Shipped) × Contains files file × (file.path ≡ q) × IsFile file.node

-- a file of more than 16 GiB
abbrev pub IsLarge : Option Node → Type 0
IsLarge node = (bytes : List ℕ) × (access : Access) × (node ≡ Some (File bytes access)) × (17179869184 < length bytes)

-- the package ships so many paths before this one
abbrev pub HasBefore : ℕ → World → Path → Type 0
HasBefore count w q = (paths : List Path) × (length paths ≡ count) × AreInOrder paths × ((p : Path) → Contains paths p → IsShipped w p × IsBefore p q)

-- a shipped path is more than a tree may hold: a file of more than 16 GiB, or a path behind 65,536 others
abbrev pub IsTooLarge : World → Path → Type 0
IsTooLarge w q = IsShipped w q × (IsLarge (w q) ⊎ HasBefore 65536 w q)

-- the first path that is more than a tree may hold, and why it is
abbrev pub IsExcess : World → Excess → Type 0
IsExcess w (Large path) = IsFirstPath (IsTooLarge w) path × IsLarge (w path)
IsExcess w (Many path) = IsFirstPath (IsTooLarge w) path × HasBefore 65536 w path
