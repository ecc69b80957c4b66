-- Packages that break others (Policy 7.3).
use Rattle.std.specs.Prelude.{ℕ, Bool, true, false, IsTrue, List, [], ◌∷◌}
use Rattle.dependency_sets.specs.Choices.{IsListing}
use Rattle.relation_fields.specs.declared.alternative.Alternative.{Alternative}
use Rattle.relation_index.specs.Packages.{those}
use Rattle.relation_index.specs.declared.package.Package.{Package}

abbrev pub states_some : List (List Alternative) → Bool
states_some [] = false
states_some (clause ∷ clauses) = true

abbrev pub states_breaks : Package → Bool
states_breaks p = states_some p.breaks

-- the packages that state Breaks, in name order
abbrev pub AreBreakers : List Package → List ℕ → Type 0
AreBreakers packages = IsListing (λ x. IsTrue (those states_breaks packages x))
