-- Looks through clauses: the first that isn't met, and whether one has two properties.
use Rattle.std.proofs.Common.{◌≡◌, ℕ, ◌+◌, ◌<◌, Bool, true, false, not, List, ◌++◌, length, get_or, take, subst, sym, refl, ◌∙◌, ⊎_elim, arith}
use Rattle.std.specs.Prelude.{IsTrue, ◌↔◌}
use Rattle.std.specs.List.{Contains}
use Rattle.std.proofs.lemmas.Bool.{false≢true}
use Rattle.std.proofs.lemmas.List.{get_or_default}
use Rattle.std.proofs.lemmas.List.Elements.{Contains-append_left, Contains-append_right, Contains-append_cases}
use Rattle.dependency_sets.specs.Choices.{IsFirst}
use Rattle.relation_fields.specs.declared.alternative.Alternative.{Alternative}
use Rattle.dependency_check.specs.Left.{IsFailing}
use Rattle.dependency_check.proofs.MeetingLaws.{none_below, none_yet}

pub yes_is : (A : Type 0) → A → IsTrue true ↔ A
yes_is A a = (λ _. a, λ _. refl)

pub no_is : (A : Type 0) → (A → ⊥) → IsTrue false ↔ A
no_is A n = (λ e. absurd (false≢true e), λ a. absurd (n a))

pub not_true : (b : Bool) (A : Type 0) → b ≡ false → IsTrue b ↔ A → A → ⊥
not_true b A f h a = false≢true (sym f ∙ h.1 a)

pub besides_is : (b : Bool) (A B : Type 0) → A → IsTrue b ↔ B → IsTrue b ↔ (A × B)
besides_is b A B a h = (λ t. (a, h.0 t), λ w. h.1 w.1)

pub without_is : (b : Bool) (A B : Type 0) → A → IsTrue b ↔ B → IsTrue (not b) ↔ (A × (B → ⊥))
without_is true A B a h = (λ e. absurd (false≢true e), λ w. absurd (w.1 (h.0 refl)))
without_is false A B a h = (λ _. (a, λ b. false≢true (h.1 b)), λ _. refl)

-- the first clause that isn't met
met_so_far : (M : List Alternative → Type 0) (clauses : List (List Alternative)) (i : ℕ) (one : List Alternative) → i < length clauses → one ≡ get_or clauses i one → M one → IsFailing M clauses i → ⊥
met_so_far M clauses i one lt at met w = w.3 (subst M (at ∙ get_or_default clauses i one w.0 lt ∙ w.2) met)

pub failing_more : (M : List Alternative → Type 0) (clauses : List (List Alternative)) (i : ℕ) (one : List Alternative) (met : Bool) → i < length clauses → one ≡ get_or clauses i one → IsTrue met ↔ M one → met ≡ true → ((k : ℕ) → k < i → IsFailing M clauses k → ⊥) → (k : ℕ) → k < i + 1 → IsFailing M clauses k → ⊥
failing_more M clauses i one met lt at is t before = none_below (IsFailing M clauses) i (met_so_far M clauses i one lt at (is.0 t)) before

pub failing_first : (M : List Alternative → Type 0) (clauses : List (List Alternative)) (i : ℕ) (one : List Alternative) (met : Bool) → i < length clauses → one ≡ get_or clauses i one → IsTrue met ↔ M one → met ≡ false → ((k : ℕ) → k < i → IsFailing M clauses k → ⊥) → IsFirst (IsFailing M clauses) i
failing_first M clauses i one met lt at is f before = ((one, lt, sym at, not_true met (M one) f is), before)

pub failing_none : (M : List Alternative → Type 0) (clauses : List (List Alternative)) (n : ℕ) → n ≡ length clauses → ((k : ℕ) → k < n → IsFailing M clauses k → ⊥) → (k : ℕ) → IsFailing M clauses k → ⊥
failing_none M clauses n e before k w = before k (omega (arith, w.1)) w

-- one of the clauses has both properties
abbrev pub HasOne : (List Alternative → Type 0) → (List Alternative → Type 0) → List (List Alternative) → Type 0
HasOne A B clauses = (clause : List Alternative) × Contains clauses clause × A clause × B clause

pub found_here : (A B : List Alternative → Type 0) (clauses : List (List Alternative)) (i : ℕ) (one : List Alternative) (told : Bool) → i < length clauses → one ≡ get_or clauses i one → IsTrue told ↔ (A one × B one) → told ≡ true → IsTrue true ↔ HasOne A B clauses
found_here A B clauses i one told lt at is t = let w = is.0 t in yes_is (HasOne A B clauses) (one, (i, lt, sym at), w.0, w.1)

pub none_here : (A B : List Alternative → Type 0) (clauses : List (List Alternative)) (i : ℕ) (one : List Alternative) (told : Bool) → i < length clauses → one ≡ get_or clauses i one → IsTrue told ↔ (A one × B one) → told ≡ false → ((x : List Alternative) → Contains (take i clauses) x → A x × B x → ⊥) → (x : List Alternative) → Contains (take (i + 1) clauses) x → A x × B x → ⊥
none_here A B clauses i one told lt at is f before = none_yet (λ x. A x × B x) clauses i one lt at (not_true told (A one × B one) f is) before

pub none_at_all : (A B : List Alternative → Type 0) (clauses all : List (List Alternative)) → clauses ≡ all → ((x : List Alternative) → Contains clauses x → A x × B x → ⊥) → IsTrue false ↔ HasOne A B all
none_at_all A B clauses all e before = no_is (HasOne A B all) (λ w. before w.0 (subst (λ (l : List (List Alternative)). Contains l w.0) (sym e) w.1) (w.2, w.3))

pub one_of_first : (A B : List Alternative → Type 0) (a b slice : List (List Alternative)) (told : Bool) → slice ≡ a → IsTrue told ↔ HasOne A B slice → told ≡ true → IsTrue true ↔ HasOne A B (a ++ b)
one_of_first A B a b slice told e is t =
    let w = is.0 t in
    yes_is (HasOne A B (a ++ b)) (w.0, Contains-append_left a b w.0 (subst (λ (l : List (List Alternative)). Contains l w.0) e w.1), w.2, w.3)

pub one_of_both : (A B : List Alternative → Type 0) (a b slice other : List (List Alternative)) (told then' : Bool) → slice ≡ a → other ≡ b → IsTrue told ↔ HasOne A B slice → told ≡ false → IsTrue then' ↔ HasOne A B other → IsTrue then' ↔ HasOne A B (a ++ b)
one_of_both A B a b slice other told then' e e' is f is' = (
  λ t. let w = is'.0 t in (w.0, Contains-append_right a b w.0 (subst (λ (l : List (List Alternative)). Contains l w.0) e' w.1), w.2, w.3),
  λ w. ⊎_elim
      (λ c. absurd (not_true told (HasOne A B slice) f is (w.0, subst (λ (l : List (List Alternative)). Contains l w.0) (sym e) c, w.2, w.3)))
      (λ c. is'.1 (w.0, subst (λ (l : List (List Alternative)). Contains l w.0) (sym e') c, w.2, w.3))
      (Contains-append_cases a b w.0 w.1),
)
