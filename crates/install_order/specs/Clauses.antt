-- What trees need of each other, as clauses over their numbers.
use Rattle.std.specs.Prelude.{◌≡◌, ◌⊎◌, ◌↔◌, ◌&&◌, ℕ, Bool, false, List, [], ◌∷◌, ◌++◌, Option, Some, None, slice_index_or}
use Rattle.std.specs.List.{Contains}
use Rattle.dependency_check.specs.Queues.{IsMetBy}
use Rattle.dependency_check.specs.Unpack.{IsMetBeforehand, meets_beforehand}
use Rattle.dependency_sets.specs.declared.clause.Clause.{Clause}
use Rattle.install_order.specs.Needs.{IsTree, IsLeftTo, Meets}
use Rattle.install_order.specs.declared.stage.Stage.{Stage}
use Rattle.install_order.specs.declared.stage.Stage.TheVariants.{Unpack, Configure}
use Rattle.package_tree.specs.declared.control_file.ControlFile.{ControlFile}
use Rattle.relation_fields.specs.Admission.{clause_admits}
use Rattle.relation_fields.specs.declared.alternative.Alternative.{Alternative}
use Rattle.relation_index.specs.Packages.{is_installed, meets, those}
use Rattle.relation_index.specs.declared.package.Package.{Package}
use Rattle.stated_relations.specs.Relations.{architecture_of, counted_as}

-- the architecture as which a tree counts in a root of this one
abbrev pub architecture_in : Option (List ℕ) → Option ControlFile → Option (List ℕ)
architecture_in root None = None
architecture_in root (Some tree) = counted_as root (architecture_of tree.paragraph)

-- a tree that counts as of this architecture meets the clause
abbrev pub meets_as : List Alternative → Option ControlFile → Option (List ℕ) → Bool
meets_as clause None architecture = false
meets_as clause (Some tree) architecture = clause_admits clause tree.name architecture tree.version tree.relations.provides

-- the tree of this number does; none past the end does
abbrev pub meets_at : List (Option ControlFile) → List (Option (List ℕ)) → List Alternative → ℕ → Bool
meets_at trees architectures clause x = meets_as clause (slice_index_or trees x None) (slice_index_or architectures x None)

-- what a tree states of others before its unpack, and before it is configured
abbrev pub stated_for : Stage → ControlFile → List (List Alternative)
stated_for Unpack tree = tree.relations.pre_depends
stated_for Configure tree = tree.relations.depends

abbrev pub stated_by : Stage → Option ControlFile → List (List Alternative)
stated_by stage None = []
stated_by stage (Some tree) = stated_for stage tree

-- a recorded package is enough for the clause as it is
abbrev pub is_enough : Stage → List Alternative → Package → Bool
is_enough Unpack clause p = meets_beforehand clause p
is_enough Configure clause p = meets clause p && is_installed p

abbrev pub IsMetAlready : Stage → List Package → List Alternative → Type 0
IsMetAlready Unpack recorded clause = IsMetBeforehand recorded clause
IsMetAlready Configure recorded clause = IsMetBy recorded clause (those is_installed recorded)

-- a clause that has to be met by another tree by then
abbrev pub NeedsFor : Stage → List Package → List (Option ControlFile) → ℕ → List Alternative → Type 0
NeedsFor stage recorded trees x clause =
    (tree : ControlFile) × IsTree trees x tree × Contains (stated_for stage tree) clause × IsLeftTo recorded trees clause (IsMetAlready stage recorded clause)

-- this is the clause of the owner, with the trees that meet it
abbrev pub IsClauseOf : List Package → List (Option ControlFile) → ℕ → List Alternative → Clause → Type 0
IsClauseOf recorded trees owner clause c = (c.owner ≡ owner) × ((y : ℕ) → Contains c.meeters y ↔ Meets recorded trees clause y)

-- the clause was added where it is left to trees
abbrev pub HasTaken : Stage → List Package → List (Option ControlFile) → ℕ → List Alternative → List Clause → List Clause → Type 0
HasTaken stage recorded trees owner clause old new =
    ((new ≡ old) × (IsLeftTo recorded trees clause (IsMetAlready stage recorded clause) → ⊥))
    ⊎ ((c : Clause) × (new ≡ old ++ c ∷ []) × IsLeftTo recorded trees clause (IsMetAlready stage recorded clause) × IsClauseOf recorded trees owner clause c)

-- those of the clauses that are left to trees were added
pub record HasStated (stage : Stage) (recorded : List Package) (trees : List (Option ControlFile)) (owner : ℕ) (stated : List (List Alternative)) (old new : List Clause) : Type 0 where
  pub kept : (c : Clause) → Contains old c → Contains new c
  pub added : (clause : List Alternative) → Contains stated clause → IsLeftTo recorded trees clause (IsMetAlready stage recorded clause) → (c : Clause) × Contains new c × IsClauseOf recorded trees owner clause c
  pub no_more : (c : Clause) → Contains new c → Contains old c ⊎ ((clause : List Alternative) × Contains stated clause × IsLeftTo recorded trees clause (IsMetAlready stage recorded clause) × IsClauseOf recorded trees owner clause c)

-- the needs of all trees
pub record AreNeeds (stage : Stage) (recorded : List Package) (trees : List (Option ControlFile)) (list : List Clause) : Type 0 where
  pub stated : (c : Clause) → Contains list c → (clause : List Alternative) × NeedsFor stage recorded trees c.owner clause × IsClauseOf recorded trees c.owner clause c
  pub all : (x : ℕ) (clause : List Alternative) → NeedsFor stage recorded trees x clause → (c : Clause) × Contains list c × IsClauseOf recorded trees x clause c
