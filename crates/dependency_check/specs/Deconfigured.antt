-- The packages that an unpack breaks, removes or leaves without what they depend on (Policy 7.2 to 7.4).
use Rattle.std.specs.Prelude.{◌≡◌, ℕ, ◌<◌, Bool, false, List, [], ◌∷◌, Option, Some, None, length, map, slice_index_or, IsTrue}
use Rattle.std.specs.List.{All, Contains}
use Rattle.dependency_sets.specs.Choices.{IsFirst, IsListing}
use Rattle.dependency_check.specs.Queues.{IsMetBy}
use Rattle.dependency_check.specs.Roles.{plays}
use Rattle.dependency_check.specs.declared.plan.Dependent.{Dependent}
use Rattle.dependency_check.specs.declared.plan.Plan.{Plan}
use Rattle.dependency_check.specs.declared.roles.Role.{Role}
use Rattle.dependency_check.specs.declared.roles.Role.TheVariants.{Conflicting, Broken, Going, Remaining, Dependable}
use Rattle.relation_fields.specs.declared.alternative.Alternative.{Alternative}
use Rattle.relation_index.specs.Packages.{Meets, those, needs, meets}
use Rattle.relation_index.specs.declared.package.Package.{Package}

-- the packages that play the role
abbrev pub of_role : Role → Package → List Package → ℕ → Bool
of_role role incoming packages = those (plays role incoming) packages

-- a conflicting installed package meets the clause, and nothing in the supply without the conflicting and the old
-- incoming package, with the new incoming one
abbrev pub IsLost : List Package → Package → List Alternative → Type 0
IsLost packages incoming clause = IsMetBy packages clause (of_role Going incoming packages) × (IsMetBy packages clause (of_role Remaining incoming packages) → ⊥) × (meets clause incoming ≡ false)

-- the package has a clause that is lost and that the one of this number meets
abbrev pub LosesBy : List Package → Package → List (List Alternative) → ℕ → Type 0
LosesBy packages incoming clauses y = (clause : List Alternative) × Contains clauses clause × Meets clause packages y × IsLost packages incoming clause

-- an installed package, neither incoming, conflicting nor broken, with a clause that is lost
abbrev pub IsDependent : List Package → Package → ℕ → Type 0
IsDependent packages incoming x = (p : Package) × (x < length packages) × (slice_index_or packages x p ≡ p) × IsTrue (plays Dependable incoming p) × ((clause : List Alternative) × Contains (needs p) clause × IsLost packages incoming clause)

-- the package named as being removed: the first conflicting one that meets such a clause
abbrev pub IsRemovedFor : List Package → Package → List (List Alternative) → ℕ → Type 0
IsRemovedFor packages incoming clauses = IsFirst (λ y. IsTrue (of_role Conflicting incoming packages y) × LosesBy packages incoming clauses y)

abbrev pub IsNamedFor : List Package → Package → Dependent → Type 0
IsNamedFor packages incoming d = (p : Package) × (d.number < length packages) × (slice_index_or packages d.number p ≡ p) × IsRemovedFor packages incoming (needs p) d.removing

-- all dependents in name order, each with the package named as being removed
abbrev pub AreDependents : List Package → Package → List Dependent → Type 0
AreDependents packages incoming list = IsListing (IsDependent packages incoming) (map (λ d. d.number) list) × All (IsNamedFor packages incoming) list

abbrev pub first_number : List Dependent → Option ℕ
first_number [] = None
first_number (d ∷ ds) = Some d.number

-- each in name order
pub record IsPlan (packages : List Package) (incoming : Package) (plan : Plan) : Type 0 where
  pub broken : IsListing (λ x. IsTrue (of_role Broken incoming packages x)) plan.broken
  pub dependents : AreDependents packages incoming plan.dependents.items
  pub conflicting : IsListing (λ x. IsTrue (of_role Conflicting incoming packages x)) plan.conflicting
