-- Those that are left over, since other packages depend on them (Policy 7.2).
use Rattle.std.specs.Prelude.{ℕ, Bool, List, [], ◌∷◌, IsTrue}
use Rattle.dependency_check.specs.Left.{DependsOnLeft}
use Rattle.dependency_check.specs.Waiting.{Waiting}
use Rattle.dependency_sets.specs.Choices.{IsFirst, IsListing}
use Rattle.dependency_sets.specs.Sets.{has}
use Rattle.relation_index.specs.declared.package.Package.{Package}
use Rattle.status_records.specs.declared.record.Record.{Record}
use Rattle.unit_reports.specs.Units.{IsRefusedUnit}
use Rattle.unit_reports.specs.declared.refusal.Rule.TheVariants.{DependedOn}
use Rattle.unit_reports.specs.declared.report.Unit.{Unit as AUnit}
use Rattle.removal_run.specs.Waiting.{IsQueueNow, name_at}
use Rattle.removal_run.specs.Whose.{IsNobodysTurn}

-- the package of this number is refused with the first other installed package that has a clause which it meets, and no
-- installed package but those left over
pub record IsDependedOn (packages : List Package) (installed left : ℕ → Bool) (x : ℕ) (u : AUnit) : Type 0 where
  pub on : ℕ
  pub first : IsFirst (DependsOnLeft packages installed left x) on
  pub refused : IsRefusedUnit (DependedOn (name_at packages on)) (name_at packages x) u

-- each of these
abbrev pub AreDependedOn : List Package → (ℕ → Bool) → (ℕ → Bool) → List ℕ → List AUnit → Type 0
AreDependedOn packages installed left [] [] = Unit {0}
AreDependedOn packages installed left [] (u ∷ us) = ⊥
AreDependedOn packages installed left (x ∷ xs) [] = ⊥
AreDependedOn packages installed left (x ∷ xs) (u ∷ us) = IsDependedOn packages installed left x u × AreDependedOn packages installed left xs us

-- A refused unit for each of these, in the order of names. Those left over are the same for all of them.
pub record AreTold (packages : List Package) (installed left : ℕ → Bool) (us : List AUnit) : Type 0 where
  pub numbers : List ℕ
  pub are : IsListing (λ x. IsTrue (left x)) numbers
  pub each : AreDependedOn packages installed left numbers us

-- those that still wait in a queue
abbrev pub AreAllTold : Waiting → List AUnit → Type 0
AreAllTold q us = AreTold q.packages (has q.installed) (has q.waiting) us

-- it is nobody's turn of those whose names are left, and each is told
pub record AreLeftOver (ignore_depends : Bool) (packages : List Package) (now : List Record) (names : List (List ℕ)) (us : List AUnit) : Type 0 where
  pub queue : Waiting
  pub is : IsQueueNow packages now names queue
  pub nobody : IsNobodysTurn ignore_depends queue
  pub told : AreAllTold queue us
