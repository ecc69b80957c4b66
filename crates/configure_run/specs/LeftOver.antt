-- Packages that still wait when none can be configured: each is refused for the first clause that isn't met (Policy 7.2).
use Rattle.std.specs.Prelude.{◌≡◌, ◌<◌, ℕ, IsTrue, List, [], ◌∷◌, ◌++◌, length, slice_index_or}
use Rattle.dependency_check.specs.Left.{IsFirstUnmet}
use Rattle.dependency_check.specs.Waiting.{Waiting}
use Rattle.dependency_check.specs.declared.left.UnmetClause.{UnmetClause}
use Rattle.dependency_check.specs.declared.left.UnmetClause.TheVariants as unmet
use Rattle.dependency_sets.specs.Choices.{IsListing}
use Rattle.dependency_sets.specs.Sets.{has}
use Rattle.relation_fields.specs.declared.alternative.Alternative.{Alternative}
use Rattle.relation_index.specs.declared.package.Package.{Package}
use Rattle.unit_reports.specs.Units.{IsRefusedUnit}
use Rattle.unit_reports.specs.declared.refusal.Rule.TheVariants.{Depends}
use Rattle.unit_reports.specs.declared.report.Unit.{Unit as AUnit}

-- the package of a number
pub record IsNumbered (packages : List Package) (x : ℕ) (p : Package) : Type 0 where
  pub within : x < length packages
  pub here : slice_index_or packages x p ≡ p

-- the clause that stands there
abbrev pub clause_at : Package → UnmetClause → List Alternative
clause_at p (unmet.PreDepends k) = slice_index_or p.pre_depends k []
clause_at p (unmet.Depends k) = slice_index_or p.depends k []

-- refused for the first clause, Pre-Depends before Depends, that nothing installed meets
pub record IsLeftOver (q : Waiting) (x : ℕ) (u : AUnit) : Type 0 where
  pub p : Package
  pub numbered : IsNumbered q.packages x p
  pub unmet : UnmetClause
  pub first : IsFirstUnmet q.packages p (has q.installed) unmet
  pub refused : IsRefusedUnit (Depends (clause_at p unmet)) p.name u

-- one unit for each of these numbers, in their order
abbrev pub AreLeftOver : Waiting → List ℕ → List AUnit → Type 0
AreLeftOver q [] [] = Unit {0}
AreLeftOver q [] (u ∷ us) = ⊥
AreLeftOver q (x ∷ xs) [] = ⊥
AreLeftOver q (x ∷ xs) (u ∷ us) = IsLeftOver q x u × AreLeftOver q xs us

-- the clause of this place is there
abbrev pub IsWithin : Package → UnmetClause → Type 0
IsWithin p (unmet.PreDepends k) = k < length p.pre_depends
IsWithin p (unmet.Depends k) = k < length p.depends

-- the unit of one of them more
pub record AddsLeftOver (q : Waiting) (x : ℕ) (old new : List AUnit) : Type 0 where
  pub unit : AUnit
  pub grown : new ≡ old ++ unit ∷ []
  pub is : IsLeftOver q x unit

-- those of more of them
pub record AddLeftOver (q : Waiting) (numbers : List ℕ) (old new : List AUnit) : Type 0 where
  pub more : List AUnit
  pub grown : new ≡ old ++ more
  pub are : AreLeftOver q numbers more

-- those of the first of these
pub record AddSomeLeftOver (q : Waiting) (numbers : List ℕ) (old new : List AUnit) : Type 0 where
  pub done : List ℕ
  pub rest : List ℕ
  pub split : numbers ≡ done ++ rest
  pub add : AddLeftOver q done old new

-- the units of all that still wait, in name order
pub record HaveRefusedLeft (q : Waiting) (old new : List AUnit) : Type 0 where
  pub numbers : List ℕ
  pub listed : IsListing (λ x. IsTrue (has q.waiting x)) numbers
  pub more : List AUnit
  pub grown : new ≡ old ++ more
  pub left_over : AreLeftOver q numbers more

-- the first of these, where memory was wanting for the others
pub data HaveRefusedSomeLeft (q : Waiting) (old new : List AUnit) : Type 0 where
  none : new ≡ old → HaveRefusedSomeLeft q old new
  some : (done rest : List ℕ) (more : List AUnit) → IsListing (λ x. IsTrue (has q.waiting x)) (done ++ rest) → new ≡ old ++ more → AreLeftOver q done more
      → HaveRefusedSomeLeft q old new
