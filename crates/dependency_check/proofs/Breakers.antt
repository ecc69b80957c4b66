-- Packages that break others.
use Rattle.std.proofs.Common.{◌≡◌, ℕ, ◌+◌, ◌<◌, ◌≤◌, Bool, true, false, List, [], ◌∷◌, length, get_or, take, refl, sym, subst, ◌∙◌}
use Rattle.std.specs.Prelude.{IsTrue, ◌&&◌}
use Rattle.std.specs.List.{Contains, list_any}
use Rattle.std.proofs.lemmas.Bool.{true≢false}
use Rattle.std.proofs.lemmas.List.{get_or_default, take_all}
use Rattle.dependency_check.specs.Deconfigured.{of_role}
use Rattle.dependency_check.specs.Roles.{admits_in, is_other, plays}
use Rattle.dependency_check.specs.declared.roles.Role.TheVariants.{Breaking}
use Rattle.dependency_check.proofs.MeetingLaws.{none_yet, those_from, those_is}
use Rattle.dependency_sets.proofs.ListingLaws.{first_of_listing}
use Rattle.dependency_sets.specs.Choices.{IsFirst}
use Rattle.relation_fields.specs.declared.alternative.Alternative.{Alternative}
use Rattle.relation_index.specs.Packages.{is_present, those}
use Rattle.relation_index.specs.declared.package.Package.{Package}
use Rattle.dependency_check.specs.Breaking.{AreBreakers, states_breaks, states_some}

second : (a b : Bool) → (a && b) ≡ true → b ≡ true
second true b both = both
second false b both = absurd (true≢false (sym both))

admits_some : (field : List (List Alternative)) (p : Package) → admits_in field p ≡ true → states_some field ≡ true
admits_some [] p is = absurd (true≢false (sym is))
admits_some (clause ∷ clauses) p is = refl

-- one that breaks another states Breaks
pub breaking_states : (packages : List Package) (of : Package) (x : ℕ) → IsTrue (of_role Breaking of packages x) → IsTrue (those states_breaks packages x)
breaking_states packages of x breaks =
    let found = those_is (plays Breaking of) packages x breaks in
    let p = found.0 in
    those_from states_breaks packages x p found.1 found.2 (admits_some p.breaks of (second (is_present p) (admits_in p.breaks of) (second (is_other of p) (is_present p && admits_in p.breaks of) found.3)))

abbrev pub IsNoneUpTo : List Package → Package → List ℕ → ℕ → Type 0
IsNoneUpTo packages of breakers i = (y : ℕ) → Contains (take i breakers) y → IsTrue (of_role Breaking of packages y) → ⊥

module _ (packages : List Package) (of : Package) (breakers : List ℕ) (i : ℕ) (lt : i < length breakers) (before : IsNoneUpTo packages of breakers i) where
  pub none_further : (broken : Bool) → broken ≡ of_role Breaking of packages (get_or breakers i 0) → broken ≡ false → IsNoneUpTo packages of breakers (i + 1)
  none_further broken is never = none_yet (λ (y : ℕ). IsTrue (of_role Breaking of packages y)) breakers i (get_or breakers i 0) lt (get_or_default breakers i 0 (get_or breakers i 0) lt) (λ t. true≢false (sym t ∙ sym is ∙ never)) before

  pub first_found : AreBreakers packages breakers → (broken : Bool) → broken ≡ of_role Breaking of packages (get_or breakers i 0) → broken ≡ true → IsFirst (λ x. IsTrue (of_role Breaking of packages x)) (get_or breakers i 0)
  first_found are broken is does =
      let here : IsTrue (of_role Breaking of packages (get_or breakers i 0)) = sym is ∙ does in
      let first = first_of_listing (λ x. IsTrue (those states_breaks packages x)) (λ x. IsTrue (of_role Breaking of packages x)) breakers i (get_or breakers i 0) are lt (get_or_default breakers i 0 (get_or breakers i 0) lt) before here in
      (here, λ y less breaks. first.1 y less (breaking_states packages of y breaks, breaks))

pub none_at_all : (packages : List Package) (of : Package) (breakers : List ℕ) (i : ℕ) → AreBreakers packages breakers → length breakers ≤ i → IsNoneUpTo packages of breakers i
    → (x : ℕ) → IsTrue (of_role Breaking of packages x) → ⊥
none_at_all packages of breakers i are end none x breaks = none x (subst (λ (l : List ℕ). Contains l x) (sym (take_all i breakers end)) ((are.1 x).1 (breaking_states packages of x breaks))) breaks
