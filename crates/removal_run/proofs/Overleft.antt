-- On those that are left over another package depends.
use Rattle.std.proofs.Common.{◌≡◌, ◌≢◌, ◌<◌, ◌⊎◌, inl, inr, ℕ, zero, suc, Bool, true, false, List, [], ◌∷◌, ◌++◌, Option, Some, None, length, get_or, nat_eq, refl, sym, ap, subst, ◌∙◌, arith}
use Rattle.std.specs.Prelude.{IsTrue, MatchOption}
use Rattle.std.specs.List.{AllByRecursion, Contains}
use Rattle.std.proofs.lemmas.Bool.{true≢false, eqb-true, eq-eqb}
use Rattle.std.proofs.lemmas.List.{get_or_default}
use Rattle.dependency_check.specs.Left.{DependsOnLeft}
use Rattle.dependency_check.specs.Queues.{IsMetBy}
use Rattle.dependency_check.specs.Waiting.{IsRemovableNow, Waiting}
use Rattle.dependency_sets.specs.Choices.{IsFirst, IsListing}
use Rattle.dependency_sets.specs.Sets.{has, stays}
use Rattle.relation_fields.specs.declared.alternative.Alternative.{Alternative}
use Rattle.relation_index.specs.Packages.{meets, Meets, States}
use Rattle.relation_index.specs.declared.package.Package.{Package}
use Rattle.unit_reports.specs.Units.{IsRefusal, IsRefusedUnit, calls_of}
use Rattle.unit_reports.specs.declared.refusal.Rule.TheVariants.{DependedOn}
use Rattle.unit_reports.specs.declared.report.Unit.{Unit as AUnit}
use Rattle.removal_run.specs.LeftOver.{AreAllTold, AreDependedOn, IsDependedOn}
use Rattle.removal_run.specs.Waiting.{name_at}

-- a clause is met by one of a set or it isn't
pub met_or_not : (packages : List Package) (clause : List Alternative) (S : ℕ → Bool) → IsMetBy packages clause S ⊎ (IsMetBy packages clause S → ⊥)
met_or_not [] clause S = inr (λ met. omega (arith, met.1.1))
met_or_not (p ∷ ps) clause S = by (meets clause p) (S zero) refl refl (met_or_not ps clause (λ y. S (suc y)))
  where
    later : IsMetBy ps clause (λ y. S (suc y)) → IsMetBy (p ∷ ps) clause S
    later met = (suc met.0, (met.1.0, omega (arith, met.1.1), met.1.2, met.1.3), met.2)

    neither : (meets clause p ≡ true → S zero ≡ true → ⊥) → (IsMetBy ps clause (λ y. S (suc y)) → ⊥) → IsMetBy (p ∷ ps) clause S → ⊥
    neither here unmet (zero, at, marked) = here (ap (meets clause) at.2 ∙ at.3) marked
    neither here unmet (suc y, at, marked) = unmet (y, (at.0, omega (arith, at.1), at.2, at.3), marked)

    by : (a b : Bool) → meets clause p ≡ a → S zero ≡ b → IsMetBy ps clause (λ y. S (suc y)) ⊎ (IsMetBy ps clause (λ y. S (suc y)) → ⊥) → IsMetBy (p ∷ ps) clause S ⊎ (IsMetBy (p ∷ ps) clause S → ⊥)
    by a b e f (inl met) = inl (later met)
    by true true e f (inr unmet) = inl (zero, (p, omega arith, refl, e), f)
    by true false e f (inr unmet) = inr (neither (λ m s. true≢false (sym s ∙ f)) unmet)
    by false b e f (inr unmet) = inr (neither (λ m s. true≢false (sym m ∙ e)) unmet)

-- one on which no other package depends can be removed alone
module _ (q : Waiting) (x : ℕ) (waits : IsTrue (has q.waiting x)) (none : (y : ℕ) → DependsOnLeft q.packages (has q.installed) (has q.waiting) x y → ⊥) where
  abbrev alone : ℕ → Bool
  alone y = nat_eq y x

  apart : (y : ℕ) → alone y ≡ false → y ≢ x
  apart y e same = true≢false (sym (eq-eqb y x same) ∙ e)

  still_met : (y : ℕ) (clause : List Alternative) → IsTrue (has q.installed y) → alone y ≡ false → States q.packages y clause → Meets clause q.packages x → IsMetBy q.packages clause (stays (has q.installed) (has q.waiting))
  still_met y clause installed e states met_by = elim (met_or_not q.packages clause (stays (has q.installed) (has q.waiting))) [
    | inl met ↦ met
    | inr unmet ↦ absurd (none y (states.0, apart y e, installed, states.1, states.2, (clause, states.3, met_by, unmet)))
  ]

  pub removed_alone : IsRemovableNow q x
  removed_alone = (
    alone,
    (
      (λ y at. subst (λ n. IsTrue (has q.waiting n)) (sym (eqb-true y x at)) waits),
      (λ z at here y clause installed e states met_by. still_met y clause installed e states (subst (λ n. Meets clause q.packages n) (eqb-true z x at) met_by)),
    ),
    eq-eqb x x refl,
  )

-- one more is told
pub depended_more : (packages : List Package) (installed left : ℕ → Bool) (xs : List ℕ) (us : List AUnit) (x : ℕ) (u : AUnit) → AreDependedOn packages installed left xs us → IsDependedOn packages installed left x u → AreDependedOn packages installed left (xs ++ x ∷ []) (us ++ u ∷ [])
depended_more packages installed left [] [] x u are is = (is, tt)
depended_more packages installed left [] (v ∷ us) x u are is = absurd are
depended_more packages installed left (y ∷ xs) [] x u are is = absurd are
depended_more packages installed left (y ∷ xs) (v ∷ us) x u are is = (are.0, depended_more packages installed left xs us x u are.1 is)

-- their units call nothing
pub depended_calls : (packages : List Package) (installed left : ℕ → Bool) (xs : List ℕ) (us : List AUnit) → AreDependedOn packages installed left xs us → calls_of us ≡ []
depended_calls packages installed left [] [] are = refl
depended_calls packages installed left [] (u ∷ us) are = absurd are
depended_calls packages installed left (x ∷ xs) [] are = absurd are
depended_calls packages installed left (x ∷ xs) (u ∷ us) are = ap (λ l. l ++ calls_of us) are.0.refused.calls ∙ depended_calls packages installed left xs us are.1

-- each of them is refused
pub depended_refused : (packages : List Package) (installed left : ℕ → Bool) (xs : List ℕ) (us : List AUnit) → AreDependedOn packages installed left xs us → AllByRecursion (λ (u : AUnit). IsRefusal u.reply) us
depended_refused packages installed left [] [] are = tt
depended_refused packages installed left [] (u ∷ us) are = absurd are
depended_refused packages installed left (x ∷ xs) [] are = absurd are
depended_refused packages installed left (x ∷ xs) (u ∷ us) are = (subst IsRefusal (sym are.0.refused.reply) tt, depended_refused packages installed left xs us are.1)

none_of : {X : Type 0} (o : Option X) (P : Type 0) (Q : X → Type 0) → o ≡ None → MatchOption o P Q → P
none_of None P Q e h = h
none_of (Some x) P Q e h = absurd cc

some_of : {X : Type 0} (o : Option X) (x : X) (P : Type 0) (Q : X → Type 0) → o ≡ Some x → MatchOption o P Q → Q x
some_of {X} o x P Q e h = subst (λ (y : Option X). MatchOption y P Q) e h

module _ (q : Waiting) (packages : List Package) (installed left : List Bool) (x : ℕ) (o : Option ℕ) (all : packages ≡ q.packages) (there : installed ≡ q.installed)
    (found : MatchOption o ((y : ℕ) → DependsOnLeft packages (has installed) (has left) x y → ⊥) (IsFirst (DependsOnLeft packages (has installed) (has left) x))) where
  -- one is found
  pub one_depends : left ≡ q.waiting → IsTrue (has left x) → (IsRemovableNow q x → ⊥) → o ≡ None → ⊥
  one_depends over waits stays e =
      let none = none_of o _ _ e found in
      stays (removed_alone q x (subst (λ (l : List Bool). IsTrue (has l x)) over waits)
      (λ y depends. none y (subst (λ (l : List Bool). DependsOnLeft packages (has installed) (has l) x y) (sym over)
      (subst (λ (i : List Bool). DependsOnLeft packages (has i) (has q.waiting) x y) (sym there)
      (subst (λ (ps : List Package). DependsOnLeft ps (has q.installed) (has q.waiting) x y) (sym all) depends)))))

  -- and told
  pub told_of : (y : ℕ) (on name : List ℕ) (u : AUnit) → o ≡ Some y → on ≡ name_at packages y → name ≡ name_at packages x → IsRefusedUnit (DependedOn on) name u → IsDependedOn q.packages (has q.installed) (has left) x u
  told_of y on name u e is own refused = subst (λ (i : List Bool). IsDependedOn q.packages (has i) (has left) x u) there
      (subst (λ (ps : List Package). IsDependedOn ps (has installed) (has left) x u) all (record {
        on = y;
        first = some_of o y _ _ e found;
        refused = subst (λ n. IsRefusedUnit (DependedOn n) (name_at packages x) u) is (subst (λ n. IsRefusedUnit (DependedOn on) n u) own refused);
      }))

-- a number that is listed is marked
pub listed_at : (S : ℕ → Bool) (numbers items : List ℕ) (i : ℕ) → items ≡ numbers → IsListing (λ x. IsTrue (S x)) numbers → i < length items → IsTrue (S (get_or items i 0))
listed_at S numbers items i same is lt = (is.1 (get_or items i 0)).0 (subst (λ (l : List ℕ). Contains l (get_or items i 0)) same (i, lt, get_or_default items i (get_or items i 0) 0 lt))

-- all of them are told
pub all_told : (q : Waiting) (left : List Bool) (numbers items : List ℕ) (us : List AUnit) → left ≡ q.waiting → items ≡ numbers → IsListing (λ x. IsTrue (has left x)) numbers → AreDependedOn q.packages (has q.installed) (has left) items us → AreAllTold q us
all_told q left numbers items us over same are each = record {
  numbers = numbers;
  are = subst (λ (l : List Bool). IsListing (λ x. IsTrue (has l x)) numbers) over are;
  each = subst (λ (l : List Bool). AreDependedOn q.packages (has q.installed) (has l) numbers us) over (subst (λ (xs : List ℕ). AreDependedOn q.packages (has q.installed) (has left) xs us) same each);
}
