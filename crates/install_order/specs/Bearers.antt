-- The trees by the names that they bear.
use Rattle.std.specs.Prelude.{◌≡◌, ◌⊎◌, ◌||◌, ℕ, Bool, false, List, Option, Some, None, IsTrue, ◌<◌, length, map, slice_index_or}
use Rattle.std.specs.List.{Contains, list_any}
use Rattle.std.specs.Str.{bytes_eq}
use Rattle.install_order.specs.Clauses.{architecture_in}
use Rattle.package_tree.specs.declared.control_file.ControlFile.{ControlFile}
use Rattle.relation_fields.specs.Admission.{admits}
use Rattle.relation_fields.specs.declared.alternative.Alternative.{Alternative}
use Rattle.relation_index.specs.Bearing.{IsEntered}

-- a tree's own name, and those that it provides
abbrev pub bears : List ℕ → Option ControlFile → Bool
bears name None = false
bears name (Some tree) = bytes_eq name tree.name || list_any (λ e. bytes_eq name e.name) tree.relations.provides

-- the alternative admits a tree that counts as of this architecture
abbrev pub admits_as : Alternative → Option ControlFile → Option (List ℕ) → Bool
admits_as a None architecture = false
admits_as a (Some tree) architecture = admits a tree.name architecture tree.version tree.relations.provides

-- the tree of this number; none past the end
abbrev pub admits_at : List (Option ControlFile) → List (Option (List ℕ)) → Alternative → ℕ → Bool
admits_at trees architectures a x = admits_as a (slice_index_or trees x None) (slice_index_or architectures x None)

-- those of the numbers that pass the test were pushed
pub record HasPushed (test : ℕ → Bool) (numbers : List ℕ) (old new : List ℕ) : Type 0 where
  pub kept : (x : ℕ) → Contains old x → Contains new x
  pub pushed : (x : ℕ) → Contains numbers x → IsTrue (test x) → Contains new x
  pub no_more : (x : ℕ) → Contains new x → Contains old x ⊎ IsTrue (test x)

-- each tree stands in the row of each name that it bears
pub record IsIndex (trees : List (Option ControlFile)) (slots : List ℕ → Option ℕ) (rows : List (List ℕ)) : Type 0 where
  pub within : (name : List ℕ) (s : ℕ) → slots name ≡ Some s → s < length rows
  pub entered : (x : ℕ) (name : List ℕ) → x < length trees → IsTrue (bears name (slice_index_or trees x None)) → IsEntered slots rows name x

-- the trees are found by the names that they bear, and it is known as of which architecture each counts in a root of this one
pub record AreBearers (root : Option (List ℕ)) (trees : List (Option ControlFile)) (architectures : List (Option (List ℕ))) (slots : List ℕ → Option ℕ) (rows : List (List ℕ)) : Type 0 where
  pub counted : architectures ≡ map (architecture_in root) trees
  pub index : IsIndex trees slots rows
