-- Packages of which a test holds, and those that meet a clause.
use Rattle.std.proofs.Common.{◌≡◌, ℕ, ◌+◌, ◌<◌, ◌≤◌, Bool, true, false, List, [], ◌∷◌, length, get_or, map, take, subst, sym, ap, ◌∙◌, ⊎_elim, arith}
use Rattle.std.specs.Prelude.{IsTrue, ◌↔◌}
use Rattle.std.specs.List.{Contains, list_any}
use Rattle.std.proofs.lemmas.Bool.{cases_lt, false≢true}
use Rattle.std.proofs.lemmas.List.{get_or_past, get_or_default, get_or-map, length-map}
use Rattle.dependency_sets.proofs.RemovalLaws.{in_more, met_from_any, any_from_met}
use Rattle.relation_fields.specs.declared.alternative.Alternative.{Alternative}
use Rattle.relation_index.specs.Packages.{Meets, meets, those, AreMeeters}
use Rattle.relation_index.specs.declared.package.Package.{Package}
use Rattle.dependency_check.specs.Queues.{IsMetBy}

pub those_at : (t : Package → Bool) (packages : List Package) (x : ℕ) (p : Package) → x < length packages → get_or packages x p ≡ p → those t packages x ≡ t p
those_at t packages x p lt e = get_or-map t packages x p false lt ∙ ap t e

pub those_past : (t : Package → Bool) (packages : List Package) (x : ℕ) → length packages ≤ x → those t packages x ≡ false
those_past t packages x le = get_or_past (map t packages) x false (omega (arith, le, length-map packages t))

-- each number below the length is a package's
pub package_at : (packages : List Package) (x : ℕ) → x < length packages → (p : Package) × (get_or packages x p ≡ p)
package_at [] x lt = absurd (omega (arith, lt))
package_at (p ∷ ps) x lt = (get_or (p ∷ ps) x p, get_or_default (p ∷ ps) x (get_or (p ∷ ps) x p) p lt)

pub those_is : (t : Package → Bool) (packages : List Package) (x : ℕ) → IsTrue (those t packages x) → (p : Package) × (x < length packages) × (get_or packages x p ≡ p) × IsTrue (t p)
those_is t packages x h = ⊎_elim
    (λ (lt : x < length packages). let w = package_at packages x lt in (w.0, lt, w.1, sym (those_at t packages x w.0 lt w.1) ∙ h))
    (λ (le : length packages ≤ x). absurd (false≢true (sym (those_past t packages x le) ∙ h)))
    (cases_lt x (length packages))

-- what holds of a package holds by its number
pub those_from : (t : Package → Bool) (packages : List Package) (x : ℕ) (p : Package) → x < length packages → get_or packages x p ≡ p → IsTrue (t p) → IsTrue (those t packages x)
those_from t packages x p lt e h = those_at t packages x p lt e ∙ h

pub meets_is : (clause : List Alternative) (packages : List Package) (x : ℕ) → IsTrue (those (meets clause) packages x) ↔ Meets clause packages x
meets_is clause packages x = (
  λ t. let w = those_is (meets clause) packages x t in (w.0, w.1, w.2, w.3),
  λ w. those_from (meets clause) packages x w.0 w.1 w.2 w.3,
)

pub one_of : (S : ℕ → Bool) (xs : List ℕ) → list_any S xs ≡ true → (x : ℕ) × Contains xs x × IsTrue (S x)
one_of S xs t = met_from_any S (record { owner = 0; meeters = xs }) t

pub any_of : (S : ℕ → Bool) (xs : List ℕ) (x : ℕ) → Contains xs x → IsTrue (S x) → list_any S xs ≡ true
any_of S xs x c t = any_from_met S (record { owner = 0; meeters = xs }) (x, c, t)

pub met_by_is : (packages : List Package) (clause : List Alternative) (S : ℕ → Bool) (numbers slice : List ℕ) (met : Bool) → AreMeeters packages clause numbers → slice ≡ numbers → met ≡ list_any S slice → IsTrue met ↔ IsMetBy packages clause S
met_by_is packages clause S numbers slice met are es e = (
  λ t. let w = one_of S slice (sym e ∙ t) in (w.0, (are w.0).0 (subst (λ (l : List ℕ). Contains l w.0) es w.1), w.2),
  λ w. e ∙ any_of S slice w.0 (subst (λ (l : List ℕ). Contains l w.0) (sym es) ((are w.0).1 w.1)) w.2,
)

-- a look through a list that has found none so far
pub none_yet : {X : Type 0} (P : X → Type 0) (xs : List X) (i : ℕ) (one : X) → i < length xs → one ≡ get_or xs i one → (P one → ⊥) → ((x : X) → Contains (take i xs) x → P x → ⊥) → (x : X) → Contains (take (i + 1) xs) x → P x → ⊥
none_yet {X} P xs i one lt at not before x c h = ⊎_elim
    (λ old. before x old h)
    (λ (same : get_or xs i one ≡ x). not (subst P (sym (at ∙ same)) h))
    (in_more xs i one x lt c)

pub none_at_first : {X : Type 0} (P : X → Type 0) (x : X) → Contains {X = X} [] x → P x → ⊥
none_at_first {X} P x c h = omega (arith, c.1)

-- a look through numbers that has found none so far
pub none_below : (P : ℕ → Type 0) (i : ℕ) → (P i → ⊥) → ((k : ℕ) → k < i → P k → ⊥) → (k : ℕ) → k < i + 1 → P k → ⊥
none_below P i not before k lt h = ⊎_elim
    (λ (l : k < i). before k l h)
    (λ (l : i ≤ k). let same : k ≡ i = omega arith in not (subst P same h))
    (cases_lt k i)
