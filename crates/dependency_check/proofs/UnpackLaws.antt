-- Why an unpack is refused.
use Rattle.std.proofs.Common.{◌≡◌, ℕ, ◌<◌, ◌≤◌, Bool, ◌&&◌, ◌||◌, not, List, Option, Some, None, [], ◌∷◌, get_or, map, subst, sym, refl, ap, ◌∙◌, ⊎_elim, arith}
use Rattle.std.specs.Prelude.{IsTrue, ◌↔◌, MatchOption}
use Rattle.std.specs.List.{Contains, list_any}
use Rattle.std.proofs.lemmas.Bool.{and_parts, cases_lt}
use Rattle.dependency_sets.specs.Choices.{IsFirst, IsListing}
use Rattle.relation_fields.specs.declared.alternative.Alternative.{Alternative}
use Rattle.relation_index.specs.Packages.{meets, those, AreMeeters, is_installed, is_unpacked}
use Rattle.relation_index.specs.declared.package.Package.{Package}
use Rattle.dependency_check.specs.Deconfigured.{AreDependents, IsDependent, first_number}
use Rattle.dependency_check.specs.Unpack.{meets_beforehand, met_when_configured, IsMetBeforehand, ArePreDependsMet, DoAllYield, IsNoneEssential, MayBeUnpacked, IsRefusedConflict, IsAlwaysRefused}
use Rattle.dependency_check.specs.declared.plan.Dependent.{Dependent}
use Rattle.dependency_check.specs.declared.unpack.UnpackRefusal.{UnpackRefusal}
use Rattle.dependency_check.specs.declared.unpack.UnpackRefusal.TheVariants.{PreDepends, Conflicts, ConflictEssential, Dependents, Breaks}
use Rattle.dependency_check.proofs.MeetingLaws.{those_is, one_of, any_of}

pub beforehand_is : (packages list : List Package) (clause : List Alternative) (numbers slice : List ℕ) (met : Bool) → AreMeeters packages clause numbers → list ≡ packages → slice ≡ numbers → met ≡ list_any (those (meets_beforehand clause) list) slice → IsTrue met ↔ IsMetBeforehand packages clause
beforehand_is packages list clause numbers slice met are el es e = (
  λ t. let w = one_of (those (meets_beforehand clause) list) slice (sym e ∙ t) in (w.0, subst (λ (l : List Package). IsTrue (those (meets_beforehand clause) l w.0)) el w.2),
  λ w.
      let v = those_is (meets_beforehand clause) packages w.0 w.1 in
      let both = and_parts (meets clause v.0) ((is_installed v.0 && not v.0.awaits) || (is_unpacked v.0 && (not v.0.removed_since && met_when_configured clause v.0 v.0.configured))) v.3 in
      e ∙ any_of (those (meets_beforehand clause) list) slice w.0 (subst (λ (l : List ℕ). Contains l w.0) (sym es) ((are w.0).1 (v.0, v.1, v.2, both.0))) (subst (λ (l : List Package). IsTrue (those (meets_beforehand clause) l w.0)) (sym el) w.1),
)

-- the first of what is listed in name order
pub first_listed : (P : ℕ → Type 0) (x : ℕ) (xs : List ℕ) → IsListing P (x ∷ xs) → IsFirst P x
first_listed P x xs listing = (
  (listing.1 x).0 (0, omega arith, refl),
  λ y lt here.
      let c = (listing.1 y).1 here in
      ⊎_elim
      (λ (later : 0 < c.0). let above : x < get_or (x ∷ xs) c.0 y = listing.0 0 c.0 y later c.1 in omega (arith, above, c.2, lt))
      (λ (first : c.0 ≤ 0).
      let none : ◌≡◌ {A = ℕ} c.0 0 = omega arith in
      let same : x ≡ y = ap (λ (m : ℕ). get_or (x ∷ xs) m y) (sym none) ∙ c.2 in
      omega (arith, same, lt))
      (cases_lt 0 c.0),
)

-- a conflict refuses where Pre-Depends are met
pub conflict_is : (packages : List Package) (incoming : Package) (o : Option UnpackRefusal) → ArePreDependsMet packages incoming → MatchOption o (DoAllYield packages incoming × IsNoneEssential packages incoming) (IsRefusedConflict packages incoming) → MatchOption o (MayBeUnpacked packages incoming) (IsAlwaysRefused packages incoming)
conflict_is packages incoming None met h = (met, h)
conflict_is packages incoming (Some (PreDepends k)) met h = absurd h
conflict_is packages incoming (Some (Conflicts x)) met h = (met, h)
conflict_is packages incoming (Some (ConflictEssential x)) met h = (met, h)
conflict_is packages incoming (Some (Dependents x)) met h = absurd h
conflict_is packages incoming (Some (Breaks x)) met h = absurd h

some_same : (a b : ℕ) → Some a ≡ Some b → a ≡ b
some_same a b e = cc

none_some : (b : ℕ) → ◌≡◌ {A = Option ℕ} None (Some b) → ⊥
none_some b e = cc

some_none : (b : ℕ) → ◌≡◌ {A = Option ℕ} (Some b) None → ⊥
some_none b e = cc

at_first : (packages : List Package) (incoming : Package) (list : List Dependent) (x : ℕ) → AreDependents packages incoming list → first_number list ≡ Some x → IsFirst (IsDependent packages incoming) x
at_first packages incoming [] x are e = absurd (none_some x e)
at_first packages incoming (d ∷ ds) x are e = subst (IsFirst (IsDependent packages incoming)) (some_same d.number x e) (first_listed (IsDependent packages incoming) d.number (map (λ (q : Dependent). q.number) ds) are.0)

at_none : (packages : List Package) (incoming : Package) (list : List Dependent) → AreDependents packages incoming list → first_number list ≡ None → (x : ℕ) → IsDependent packages incoming x → ⊥
at_none packages incoming [] are e x w = let c = (are.0.1 x).1 w in omega (arith, c.1)
at_none packages incoming (d ∷ ds) are e x w = some_none d.number e

pub first_dependent : (packages : List Package) (incoming : Package) (list slice : List Dependent) (x : ℕ) → slice ≡ list → AreDependents packages incoming list → first_number slice ≡ Some x → IsFirst (IsDependent packages incoming) x
first_dependent packages incoming list slice x es are e = at_first packages incoming slice x (subst (AreDependents packages incoming) (sym es) are) e

pub no_dependent : (packages : List Package) (incoming : Package) (list slice : List Dependent) → slice ≡ list → AreDependents packages incoming list → first_number slice ≡ None → (x : ℕ) → IsDependent packages incoming x → ⊥
no_dependent packages incoming list slice es are e = at_none packages incoming slice (subst (AreDependents packages incoming) (sym es) are) e
