-- What trees need of each other before they can be unpacked and configured (Policy 7.2). Trees are numbers, in the order in which
-- they are given. One that can't be read needs nothing, and meets nothing.
use Rattle.std.specs.Prelude.{◌≡◌, ℕ, Bool, List, Option, Some, None, IsTrue, ◌<◌, length, slice_index_or}
use Rattle.std.specs.List.{Contains}
use Rattle.dependency_check.specs.Queues.{IsMetBy}
use Rattle.dependency_check.specs.Unpack.{IsMetBeforehand}
use Rattle.package_tree.specs.declared.control_file.ControlFile.{ControlFile}
use Rattle.recorded_packages.specs.Packages.{first_architecture}
use Rattle.relation_fields.specs.Admission.{clause_admits}
use Rattle.relation_fields.specs.declared.alternative.Alternative.{Alternative}
use Rattle.relation_index.specs.Packages.{is_installed, those}
use Rattle.relation_index.specs.declared.package.Package.{Package}
use Rattle.stated_relations.specs.Relations.{architecture_of, counted_as}

-- the tree of this number has this control file
abbrev pub IsTree : List (Option ControlFile) → ℕ → ControlFile → Type 0
IsTree trees x tree = (x < length trees) × (slice_index_or trees x None ≡ Some tree)

-- in a root of these packages a tree meets a clause by its name, architecture and version, or by what it provides
abbrev pub tree_meets : List Package → List Alternative → ControlFile → Bool
tree_meets recorded clause tree =
    clause_admits clause tree.name (counted_as (first_architecture recorded) (architecture_of tree.paragraph)) tree.version tree.relations.provides

-- the tree of this number meets the clause
abbrev pub Meets : List Package → List (Option ControlFile) → List Alternative → ℕ → Type 0
Meets recorded trees clause x = (tree : ControlFile) × IsTree trees x tree × IsTrue (tree_meets recorded clause tree)

-- one of a set of trees does
abbrev pub IsMetBySome : List Package → List (Option ControlFile) → List Alternative → (ℕ → Bool) → Type 0
IsMetBySome recorded trees clause S = (y : ℕ) × Meets recorded trees clause y × IsTrue (S y)

-- The clause can be met by a tree alone: one meets it, and what is installed doesn't.
abbrev pub IsLeftTo : List Package → List (Option ControlFile) → List Alternative → Type 0 → Type 0
IsLeftTo recorded trees clause IsMet = ((y : ℕ) × Meets recorded trees clause y) × (IsMet → ⊥)

-- a clause of the tree's Pre-Depends that has to be met by another tree, before the unpack
abbrev pub NeedsBefore : List Package → List (Option ControlFile) → ℕ → List Alternative → Type 0
NeedsBefore recorded trees x clause =
    (tree : ControlFile) × IsTree trees x tree × Contains tree.relations.pre_depends clause × IsLeftTo recorded trees clause (IsMetBeforehand recorded clause)

-- a clause of its Depends that has to be met by another tree, before it is configured
abbrev pub NeedsThen : List Package → List (Option ControlFile) → ℕ → List Alternative → Type 0
NeedsThen recorded trees x clause =
    (tree : ControlFile) × IsTree trees x tree × Contains tree.relations.depends clause × IsLeftTo recorded trees clause (IsMetBy recorded clause (those is_installed recorded))

-- what its unpack needs is met by the trees of earlier rounds
abbrev pub CanBeUnpacked : List Package → List (Option ControlFile) → (ℕ → Bool) → ℕ → Type 0
CanBeUnpacked recorded trees earlier x = (clause : List Alternative) → NeedsBefore recorded trees x clause → IsMetBySome recorded trees clause earlier

-- what it needs to be configured is met by these
abbrev pub HasItsDepends : List Package → List (Option ControlFile) → (ℕ → Bool) → ℕ → Type 0
HasItsDepends recorded trees S x = (clause : List Alternative) → NeedsThen recorded trees x clause → IsMetBySome recorded trees clause S
