-- Packages that lose what they depend on.
use Rattle.std.proofs.Common.{◌≡◌, ℕ, ◌+◌, ◌<◌, Bool, true, false, ◌&&◌, not, List, Option, Some, None, [], ◌∷◌, ◌++◌, length, get_or, map, take, subst, sym, refl, ap, ◌∙◌, arith}
use Rattle.std.specs.Prelude.{IsTrue, ◌↔◌, MatchOption}
use Rattle.std.specs.List.{All, Contains, list_any}
use Rattle.std.proofs.lemmas.Bool.{and_parts, false≢true, not-true}
use Rattle.std.proofs.lemmas.List.{get_or_default, map_push}
use Rattle.std.proofs.lemmas.List.Elements.{All-nil, All-push}
use Rattle.dependency_sets.specs.Choices.{IsListing}
use Rattle.dependency_sets.specs.Sets.{has}
use Rattle.dependency_sets.proofs.ListingLaws.{IsListedBelow, listed_none, listed_with, listed_without, listed_all, first_of_listing}
use Rattle.relation_fields.specs.declared.alternative.Alternative.{Alternative}
use Rattle.relation_index.specs.Packages.{meets, those, needs, is_installed}
use Rattle.relation_index.specs.declared.package.Package.{Package}
use Rattle.dependency_check.specs.Deconfigured.{of_role, IsLost, LosesBy, IsDependent, IsRemovedFor, IsNamedFor, AreDependents}
use Rattle.dependency_check.specs.Departing.{IsDeparture}
use Rattle.dependency_check.specs.Queues.{IsMetBy}
use Rattle.dependency_check.specs.Roles.{plays, is_conflicting}
use Rattle.dependency_check.specs.declared.dependents.Departure.{Departure}
use Rattle.dependency_check.specs.declared.plan.Dependent.{Dependent}
use Rattle.dependency_check.specs.declared.roles.Role.TheVariants.{Conflicting, Going, Remaining, Dependable}
use Rattle.dependency_check.proofs.MeetingLaws.{those_is, those_from, meets_is, one_of}

lost_cases : (packages : List Package) (incoming : Package) (clause : List Alternative) (met : Bool) → IsMetBy packages clause (of_role Going incoming packages) → meets clause incoming ≡ false → IsTrue met ↔ IsMetBy packages clause (of_role Remaining incoming packages) → IsTrue (not met) ↔ IsLost packages incoming clause
lost_cases packages incoming clause true by out is = (λ e. absurd (false≢true e), λ w. absurd (w.1 (is.0 refl)))
lost_cases packages incoming clause false by out is = (λ _. (by, λ m. false≢true (is.1 m), out), λ _. refl)

pub lost_is : (packages list : List Package) (incoming : Package) (d : Departure) (clause : List Alternative) (going : List ℕ) (remaining : List Bool) (may met : Bool) → IsDeparture packages incoming d → list ≡ packages → going ≡ d.going → remaining ≡ d.remaining.items → may ≡ (not (meets clause incoming) && list_any (those (meets clause) list) going) → may ≡ true → IsTrue met ↔ IsMetBy packages clause (has remaining) → IsTrue (not met) ↔ IsLost packages incoming clause
lost_is packages list incoming d clause going remaining may met dep el eg er e t is =
    let both = and_parts (not (meets clause incoming)) (list_any (those (meets clause) list) going) (sym e ∙ t) in
    let w = one_of (those (meets clause) list) going both.1 in
    let by : IsMetBy packages clause (of_role Going incoming packages) = (
      w.0,
      (meets_is clause packages w.0).0 (subst (λ (l : List Package). IsTrue (those (meets clause) l w.0)) el w.2),
      (dep.going.1 w.0).0 (subst (λ (l : List ℕ). Contains l w.0) eg w.1),
    ) in
    let same : has remaining ≡ of_role Remaining incoming packages = ap has (er ∙ dep.remaining) in
    let is' = subst (λ (S : ℕ → Bool). IsTrue met ↔ IsMetBy packages clause S) same is in
    lost_cases packages incoming clause met by (not-true (meets clause incoming) both.0) is'

-- one that goes is conflicting
going_conflicts : (packages : List Package) (incoming : Package) (y : ℕ) → IsTrue (of_role Going incoming packages y) → IsTrue (of_role Conflicting incoming packages y)
going_conflicts packages incoming y t =
    let w = those_is (plays Going incoming) packages y t in
    those_from (plays Conflicting incoming) packages y w.0 w.1 w.2 (and_parts (is_installed w.0) (is_conflicting incoming w.0) w.3).1

pub removed_first : (packages : List Package) (incoming : Package) (clauses : List (List Alternative)) (conflicting : List ℕ) (i : ℕ) (told : Bool) → IsListing (λ x. IsTrue (of_role Conflicting incoming packages x)) conflicting → i < length conflicting → IsTrue told ↔ LosesBy packages incoming clauses (get_or conflicting i 0) → told ≡ true → ((y : ℕ) → Contains (take i conflicting) y → LosesBy packages incoming clauses y → ⊥) → IsRemovedFor packages incoming clauses (get_or conflicting i 0)
removed_first packages incoming clauses conflicting i told listing lt is t before =
    first_of_listing (λ x. IsTrue (of_role Conflicting incoming packages x)) (LosesBy packages incoming clauses) conflicting i (get_or conflicting i 0) listing lt (get_or_default conflicting i 0 (get_or conflicting i 0) lt) before (is.0 t)

pub removed_none : (packages : List Package) (incoming : Package) (clauses : List (List Alternative)) (conflicting all : List ℕ) → conflicting ≡ all → IsListing (λ x. IsTrue (of_role Conflicting incoming packages x)) all → ((y : ℕ) → Contains conflicting y → LosesBy packages incoming clauses y → ⊥) → (clause : List Alternative) → Contains clauses clause → IsLost packages incoming clause → ⊥
removed_none packages incoming clauses conflicting all e listing before clause inc lost =
    let y = lost.0.0 in
    let inside : Contains conflicting y = subst (λ (l : List ℕ). Contains l y) (sym e) ((listing.1 y).1 (going_conflicts packages incoming y lost.0.2)) in
    before y inside (clause, inc, lost.0.1, lost)

-- the package of a number is one alone
same_package : (packages : List Package) (x : ℕ) (p q : Package) → x < length packages → get_or packages x p ≡ p → get_or packages x q ≡ q → p ≡ q
same_package packages x p q lt e f = sym e ∙ get_or_default packages x p q lt ∙ f

pub dependent_not : (packages : List Package) (incoming : Package) (x : ℕ) (p : Package) → x < length packages → get_or packages x p ≡ p → plays Dependable incoming p ≡ false → IsDependent packages incoming x → ⊥
dependent_not packages incoming x p lt at f w =
    let one : w.0 ≡ p = same_package packages x w.0 p lt w.2 at in
    false≢true (sym f ∙ subst (λ (q : Package). plays Dependable incoming q ≡ true) one w.3)

pub dependent_is : (packages : List Package) (incoming : Package) (x : ℕ) (p : Package) → x < length packages → get_or packages x p ≡ p → plays Dependable incoming p ≡ true → (o : Option ℕ) (r : Option Dependent) → MatchOption o ((clause : List Alternative) → Contains (needs p) clause → IsLost packages incoming clause → ⊥) (IsRemovedFor packages incoming (needs p)) → MatchOption o (r ≡ None) (λ q. r ≡ Some (record { number = x; removing = q })) → MatchOption r (IsDependent packages incoming x → ⊥) (λ d. (d.number ≡ x) × IsDependent packages incoming x × IsNamedFor packages incoming d)
dependent_is packages incoming x p lt at t None r none' e =
    subst (λ (o : Option Dependent). MatchOption o (IsDependent packages incoming x → ⊥) (λ d. (d.number ≡ x) × IsDependent packages incoming x × IsNamedFor packages incoming d)) (sym e)
    (λ w. let one : w.0 ≡ p = same_package packages x w.0 p lt w.2 at in
    none' w.4.0 (subst (λ (q : Package). Contains (needs q) w.4.0) one w.4.1) w.4.2)
dependent_is packages incoming x p lt at t (Some q) r first e =
    subst (λ (o : Option Dependent). MatchOption o (IsDependent packages incoming x → ⊥) (λ d. (d.number ≡ x) × IsDependent packages incoming x × IsNamedFor packages incoming d)) (sym e)
    (refl, (p, lt, at, t, (first.0.1.0, first.0.1.1, first.0.1.3)), (p, lt, at, first))

-- the dependents below a number
abbrev pub names_of : List Dependent → List ℕ
names_of list = map (λ d. d.number) list

pub record AreDependentsBelow (packages : List Package) (incoming : Package) (n : ℕ) (list : List Dependent) : Type 0 where
  pub listed : IsListedBelow (IsDependent packages incoming) n (names_of list)
  pub named : All (IsNamedFor packages incoming) list

pub dependents_none : (packages : List Package) (incoming : Package) (list : List Dependent) → list ≡ [] → AreDependentsBelow packages incoming 0 list
dependents_none packages incoming list e = subst (AreDependentsBelow packages incoming 0) (sym e) (record {
  listed = listed_none (IsDependent packages incoming) [] refl;
  named = All-nil (IsNamedFor packages incoming);
})

pub dependents_more : (packages : List Package) (incoming : Package) (n : ℕ) (list new : List Dependent) (found : Option Dependent) → AreDependentsBelow packages incoming n list → MatchOption found (IsDependent packages incoming n → ⊥) (λ d. (d.number ≡ n) × IsDependent packages incoming n × IsNamedFor packages incoming d) → (found ≡ None → new ≡ list) → ((d : Dependent) → found ≡ Some d → new ≡ list ++ d ∷ []) → AreDependentsBelow packages incoming (n + 1) new
dependents_more packages incoming n list new None h not' same more = subst (AreDependentsBelow packages incoming (n + 1)) (sym (same refl)) (record {
  listed = listed_without (IsDependent packages incoming) n (names_of list) not' h.listed;
  named = h.named;
})
dependents_more packages incoming n list new (Some d) h is same more = subst (AreDependentsBelow packages incoming (n + 1)) (sym (more d refl)) (record {
  listed = subst (IsListedBelow (IsDependent packages incoming) (n + 1)) (ap (λ (m : ℕ). names_of list ++ m ∷ []) (sym is.0) ∙ sym (map_push (λ (q : Dependent). q.number) list d))
      (listed_with (IsDependent packages incoming) n (names_of list) is.1 h.listed);
  named = All-push (IsNamedFor packages incoming) list d h.named is.2;
})

pub dependents_are : (packages : List Package) (incoming : Package) (n : ℕ) (list : List Dependent) → n ≡ length packages → AreDependentsBelow packages incoming n list → AreDependents packages incoming list
dependents_are packages incoming n list e h = (listed_all (IsDependent packages incoming) n (names_of list) (λ x w. omega (arith, w.1)) h.listed, h.named)
