-- Why packages that are left over can't be configured or removed (Policy 7.2, 7.3).
use Rattle.std.specs.Prelude.{◌≡◌, ◌≢◌, ℕ, Bool, List, IsTrue, ◌<◌, length, slice_index_or}
use Rattle.std.specs.List.{Contains}
use Rattle.dependency_sets.specs.Choices.{IsFirst}
use Rattle.dependency_sets.specs.Sets.{stays}
use Rattle.dependency_check.specs.Queues.{IsMetBy}
use Rattle.dependency_check.specs.declared.left.UnmetClause.{UnmetClause}
use Rattle.dependency_check.specs.declared.left.UnmetClause.TheVariants.{PreDepends, Depends}
use Rattle.relation_fields.specs.declared.alternative.Alternative.{Alternative}
use Rattle.relation_index.specs.Packages.{Meets, needs}
use Rattle.relation_index.specs.declared.package.Package.{Package}

-- the clause of this place isn't met
abbrev pub IsFailing : (List Alternative → Type 0) → List (List Alternative) → ℕ → Type 0
IsFailing IsClauseMet clauses k = (clause : List Alternative) × (k < length clauses) × (slice_index_or clauses k clause ≡ clause) × (IsClauseMet clause → ⊥)

-- the clause of this place is met by none of the set
abbrev pub IsUnmetAt : List Package → List (List Alternative) → (ℕ → Bool) → ℕ → Type 0
IsUnmetAt packages clauses S k = IsFailing (λ clause. IsMetBy packages clause S) clauses k

abbrev pub AreAllMet : List Package → List (List Alternative) → (ℕ → Bool) → Type 0
AreAllMet packages clauses S = (k : ℕ) → IsUnmetAt packages clauses S k → ⊥

-- the first clause, Pre-Depends before Depends, that none of the set meets
abbrev pub IsFirstUnmet : List Package → Package → (ℕ → Bool) → UnmetClause → Type 0
IsFirstUnmet packages p S (PreDepends k) = IsFirst (IsUnmetAt packages p.pre_depends S) k
IsFirstUnmet packages p S (Depends k) = AreAllMet packages p.pre_depends S × IsFirst (IsUnmetAt packages p.depends S) k

-- one of the clauses is met by the package of this number, and by none of the set
abbrev pub HasOneLeft : List Package → List (List Alternative) → (ℕ → Bool) → ℕ → Type 0
HasOneLeft packages clauses S x = (clause : List Alternative) × Contains clauses clause × Meets clause packages x × (IsMetBy packages clause S → ⊥)

-- another installed package y has a clause that x meets and that none of the set does
abbrev pub DependsBeside : List Package → (ℕ → Bool) → (ℕ → Bool) → ℕ → ℕ → Type 0
DependsBeside packages installed S x y = (p : Package) × (y ≢ x) × IsTrue (installed y) × (y < length packages) × (slice_index_or packages y p ≡ p) × HasOneLeft packages (needs p) S x

-- another installed package y has a clause that x meets and that no installed package but those left meets
abbrev pub DependsOnLeft : List Package → (ℕ → Bool) → (ℕ → Bool) → ℕ → ℕ → Type 0
DependsOnLeft packages installed left x y = DependsBeside packages installed (stays installed left) x y
