-- The members of a set in name order.
use Rattle.std.proofs.Common.{◌≡◌, ℕ, ◌+◌, ◌<◌, ◌≤◌, Bool, true, false, cond, List, [], ◌∷◌, ◌++◌, length, get_or, take, subst, sym, ap, ◌∙◌, ⊎_elim, arith}
use Rattle.std.specs.Prelude.{IsTrue}
use Rattle.std.specs.List.{AllPairs, Contains}
use Rattle.std.proofs.lemmas.Bool.{cases_eq, cases_lt, cases_Bool, false≢true, cond-true, cond-false}
use Rattle.std.proofs.lemmas.List.{get_or_default, get_or-take, length-take-le}
use Rattle.std.proofs.lemmas.List.Elements.{Contains-append_left, Contains-push, Contains-push_cases, Contains-get_or}
use Rattle.std.proofs.lemmas.List.Quantifiers.{all_pairs_push}
use Rattle.dependency_sets.specs.Choices.{IsFirst, IsListing}

-- the members below a number, in their order
pub record IsListedBelow (P : ℕ → Type 0) (n : ℕ) (list : List ℕ) : Type 0 where
  pub ordered : AllPairs (λ a b. a < b) list
  pub within : (x : ℕ) → Contains list x → (x < n) × P x
  pub all : (x : ℕ) → x < n → P x → Contains list x

pub listed_none : (P : ℕ → Type 0) (list : List ℕ) → list ≡ [] → IsListedBelow P 0 list
listed_none P list e = subst (IsListedBelow P 0) (sym e) (record {
  ordered = λ i j d lt in'. absurd (omega (arith, in'));
  within = λ x c. absurd (omega (arith, c.1));
  all = λ x lt t. absurd (omega (arith, lt));
})

pub listed_with : (P : ℕ → Type 0) (n : ℕ) (list : List ℕ) → P n → IsListedBelow P n list → IsListedBelow P (n + 1) (list ++ n ∷ [])
listed_with P n list here h = record {
  ordered = all_pairs_push (λ a b. a < b) list n h.ordered (λ k d lt. (h.within (get_or list k d) (Contains-get_or list k d lt)).0);
  within = λ x c. ⊎_elim
      (λ old. let w = h.within x old in (omega (arith, w.0), w.1))
      (λ (same : n ≡ x). (omega arith, subst P same here))
      (Contains-push_cases list n x c);
  all = λ x lt t. ⊎_elim
      (λ (l : x < n). Contains-append_left list (n ∷ []) x (h.all x l t))
      (λ (l : n ≤ x). let same : n ≡ x = omega arith in subst (Contains (list ++ n ∷ [])) same (Contains-push list n))
      (cases_lt x n);
}

pub listed_without : (P : ℕ → Type 0) (n : ℕ) (list : List ℕ) → (P n → ⊥) → IsListedBelow P n list → IsListedBelow P (n + 1) list
listed_without P n list absent h = record {
  ordered = h.ordered;
  within = λ x c. let w = h.within x c in (omega (arith, w.0), w.1);
  all = λ x lt t. ⊎_elim
      (λ (l : x < n). h.all x l t)
      (λ (l : n ≤ x). let same : x ≡ n = omega arith in absurd (absent (subst P same t)))
      (cases_lt x n);
}

pub listed_all : (P : ℕ → Type 0) (n : ℕ) (list : List ℕ) → ((x : ℕ) → P x → x < n) → IsListedBelow P n list → IsListing P list
listed_all P n list bound h = (h.ordered, λ x. (λ c. (h.within x c).1, λ t. h.all x (bound x t) t))

-- as far as the marks have been looked at
abbrev pub IsMarkedBelow : (ℕ → Bool) → ℕ → List ℕ → Type 0
IsMarkedBelow set = IsListedBelow (λ x. IsTrue (set x))

pub marked_more : (set : ℕ → Bool) (n : ℕ) (list new : List ℕ) → IsMarkedBelow set n list → new ≡ cond (set n) (list ++ n ∷ []) list → IsMarkedBelow set (n + 1) new
marked_more set n list new h e = ⊎_elim
    (λ (t : set n ≡ true). subst (IsMarkedBelow set (n + 1)) (sym (e ∙ cond-true (set n) (list ++ n ∷ []) list t)) (listed_with (λ x. IsTrue (set x)) n list t h))
    (λ (f : set n ≡ false). subst (IsMarkedBelow set (n + 1)) (sym (e ∙ cond-false (set n) (list ++ n ∷ []) list f)) (listed_without (λ x. IsTrue (set x)) n list (λ (t : set n ≡ true). false≢true (sym f ∙ t)) h))
    (cases_Bool (set n))

-- the first of a list in name order that has another property too
pub first_of_listing : (P Q : ℕ → Type 0) (list : List ℕ) (i n : ℕ) → IsListing P list → i < length list → n ≡ get_or list i n → ((y : ℕ) → Contains (take i list) y → Q y → ⊥) → Q n → IsFirst (λ y. P y × Q y) n
first_of_listing P Q list i n listing lt at before here = (
  ((listing.1 n).0 (i, lt, sym at), here),
  λ y less both.
      let c = (listing.1 y).1 both.0 in
      ⊎_elim
      (λ (below : c.0 < i). before y (c.0, subst (λ (m : ℕ). c.0 < m) (sym (length-take-le i list (omega arith))) below, get_or-take i list c.0 y below ∙ c.2) both.1)
      (λ (past : i ≤ c.0). ⊎_elim
      (λ (same : i ≡ c.0).
      let equal : n ≡ y = at ∙ get_or_default list i n y lt ∙ ap (λ (k : ℕ). get_or list k y) same ∙ c.2 in
      absurd (omega (arith, less, equal)))
      (λ ne.
      let after : i < c.0 = omega (arith, past, ne) in
      let above : get_or list i y < get_or list c.0 y = listing.0 i c.0 y after c.1 in
      let one : get_or list i y ≡ n = get_or_default list i y n lt ∙ sym at in
      absurd (omega (arith, less, above, one, c.2)))
      (cases_eq i c.0))
      (cases_lt c.0 i),
)
