-- The files of `DEBIAN` that are stored as they are.
use Rattle.std.specs.Prelude.{◌≡◌, ◌≢◌, ◌⊎◌, ◌++◌, ◌∷◌, [], true, ℕ, Bool, List, Option, Some, Contains, codes, map}
use Rattle.std.specs.List.{AllByRecursion}
use Rattle.host_core.specs.Paths.{Path}
use Rattle.host_core.specs.World.{World, kind_of}
use Rattle.host_core.specs.declared.node.Kind.TheVariants.{File}
use Rattle.host_core.specs.declared.node.Node.{Node}
use Rattle.package_tree.specs.OtherNames.{is_other_name}
use Rattle.package_tree.specs.Owners.{root_at}
use Rattle.package_tree.specs.Shipped.{AreInOrder}
use Rattle.package_tree.specs.declared.other_file.OtherFile.{OtherFile}

-- their names
abbrev pub names_of : List OtherFile → List (List ℕ)
names_of others = map (λ other. other.name) others

-- where a file of `DEBIAN` stands in a tree
abbrev pub control_member : List ℕ → Path
control_member name = codes "/DEBIAN/" ++ name

-- What stands by some of the names is there, if it is a file, given to root, in the order of the names; what isn't a file is
-- passed over.
pub record AreOthersOf (w : World) (names : List ℕ → Bool) (others : List OtherFile) : Type 0 where
  pub nodes : AllByRecursion (λ other. root_at (w (control_member other.name)) ≡ Some other.node) others
  pub whole : (name : List ℕ) → names name ≡ true → kind_of (w (control_member name)) ≡ Some File → Contains (names_of others) name
  pub order : AreInOrder (names_of others)

-- these are all files of `DEBIAN` that are stored as they are
abbrev pub AreOthers : World → List OtherFile → Type 0
AreOthers w others = AreOthersOf w is_other_name others

-- a file joins those that were found, given to root; what isn't one is passed over
abbrev pub HasTakenOther : List ℕ → Option Node → List OtherFile → List OtherFile → Type 0
HasTakenOther name node old new = ((new ≡ old) × (kind_of node ≢ Some File)) ⊎ ((other : OtherFile) × (other.name ≡ name) × (Some other.node ≡ root_at node) × (new ≡ old ++ other ∷ []))
