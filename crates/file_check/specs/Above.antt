-- What is above a place.
use Rattle.std.specs.Prelude.{◌≡◌, ◌⊎◌, ℕ, Bool, true, false, List, ◌∷◌, ◌++◌, Option, None, Some, IsTrue}
use Rattle.host_core.specs.Paths.{Path}
use Rattle.host_core.specs.World.{World, IsDirectory}
use Rattle.host_core.specs.declared.node.Kind.{Kind}
use Rattle.host_core.specs.declared.node.Kind.TheVariants as kind
use Rattle.host_core.specs.declared.node.Node.{Node}
use Rattle.host_core.specs.declared.node.Node.TheVariants.{Link}
use Rattle.file_check.specs.declared.above.Above.{Above}
use Rattle.file_check.specs.declared.above.Above.TheVariants as above

abbrev pub IsLink : Option Node → Type 0
IsLink node = (target : List ℕ) × (node ≡ Some (Link target))

-- a directory stands there, or one is made
abbrev pub Becomes : (Path → Bool) → World → Path → Type 0
Becomes made w p = IsDirectory (w p) ⊎ IsTrue (made p)

-- a parent of the place is a link
abbrev pub HasLink : World → Path → Type 0
HasLink w place = (front rest : List ℕ) × (place ≡ front ++ 47 ∷ rest) × IsLink (w front)

-- a parent of the place neither is a directory nor becomes one
abbrev pub Lacks : (Path → Bool) → World → Path → Type 0
Lacks made w place = (front rest : List ℕ) × (place ≡ front ++ 47 ∷ rest) × (Becomes made w front → ⊥)

-- each parent of the place is a directory or becomes one, and none is a link
abbrev pub IsClear : (Path → Bool) → World → Path → Type 0
IsClear made w place = (front rest : List ℕ) → place ≡ front ++ 47 ∷ rest → Becomes made w front × (IsLink (w front) → ⊥)

abbrev pub IsAbove : (Path → Bool) → World → Path → Above → Type 0
IsAbove made w place above.Directories = IsClear made w place
IsAbove made w place above.Link = HasLink w place
IsAbove made w place above.Lacking = (HasLink w place → ⊥) × Lacks made w place

-- what is above where no link was found
abbrev pub answer_of : Bool → Above
answer_of true = above.Lacking
answer_of false = above.Directories

abbrev pub is_link_kind : Option Kind → Bool
is_link_kind None = false
is_link_kind (Some kind.File) = false
is_link_kind (Some kind.Directory) = false
is_link_kind (Some kind.SymbolicLink) = true
