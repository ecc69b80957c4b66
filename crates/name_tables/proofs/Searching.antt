-- A search among values in name order, which halves what is left, and a look whether they are in it.
use Rattle.std.proofs.Common.{◌≡◌, inl, inr, ℕ, zero, suc, ◌+◌, ◌-◌, ◌<◌, ◌≤◌, List, [], ◌∷◌, length, get_or, sym, ap, subst, ◌∙◌, arith}
use Rattle.std.proofs.Math.Nat.{eq-or-lt_of_le}
use Rattle.std.proofs.lemmas.Bool.{cases_eq}
use Rattle.std.proofs.lemmas.List.{get_or-map}
use Rattle.name_tables.specs.Order.{IsBefore, IsBeforeAll, AreInOrder, names_of}
use Rattle.name_tables.proofs.Names.{before_then}
use Rattle.name_tables.proofs.Ordered.{before_all_then}

module _ {X : Type 0} (called : X → List ℕ) where
  pub name_at : (xs : List X) (i : ℕ) (x : X) → i < length xs → x ≡ get_or xs i x → get_or (names_of called xs) i [] ≡ called x
  name_at xs i x lt e = get_or-map called xs i x [] lt ∙ ap called (sym e)

  pub order_at : (xs : List X) (i j : ℕ) → AreInOrder called xs → i < j → j < length xs → IsBefore (get_or (names_of called xs) i []) (get_or (names_of called xs) j [])
  order_at [] i j order less lt = absurd (omega (arith, lt))
  order_at (x ∷ xs) i zero order less lt = absurd (omega (arith, less))
  order_at (x ∷ xs) zero (suc j) order less lt = among xs j order.0 (omega (arith, lt))
    where
      among : (ys : List X) (k : ℕ) → IsBeforeAll called (called x) ys → k < length ys → IsBefore (called x) (get_or (names_of called ys) k [])
      among [] k all small = absurd (omega (arith, small))
      among (y ∷ ys) zero all small = all.0
      among (y ∷ ys) (suc k) all small = among ys k all.1 (omega (arith, small))
  order_at (x ∷ xs) (suc i) (suc j) order less lt = order_at xs i j order.1 (omega (arith, less)) (omega (arith, lt))

  pub before_up_to : (xs : List X) (name : List ℕ) (middle : ℕ) → AreInOrder called xs → middle < length xs → IsBefore (get_or (names_of called xs) middle []) name → (k : ℕ) → k < middle + 1 → IsBefore (get_or (names_of called xs) k []) name
  before_up_to xs name middle order within less k small = let up : k ≤ middle = omega (arith, small) in elim (eq-or-lt_of_le up) [
    | inl same ↦ subst (λ (i : ℕ). IsBefore (get_or (names_of called xs) i []) name) (sym same) less
    | inr lt ↦ before_then (get_or (names_of called xs) k []) (get_or (names_of called xs) middle []) name (order_at xs k middle order lt within) less
  ]

  pub neighbours : (xs : List X) (at : ℕ) (x y : X) → at < length xs → 0 < at → x ≡ get_or xs (at - 1) x → y ≡ get_or xs at y → AreInOrder called xs → IsBefore (called x) (called y)
  neighbours xs at x y lt some is_x is_y order =
      subst (λ (n : List ℕ). IsBefore n (called y)) (name_at xs (at - 1) x (omega (arith, lt)) is_x)
      (subst (λ (n : List ℕ). IsBefore (get_or (names_of called xs) (at - 1) []) n) (name_at xs at y lt is_y) (order_at xs (at - 1) at order (omega (arith, some)) lt))

  -- each value is before the next one
  pub adjacent_order : (xs : List X) → ((k : ℕ) → k + 1 < length xs → IsBefore (get_or (names_of called xs) k []) (get_or (names_of called xs) (k + 1) [])) → AreInOrder called xs
  adjacent_order [] each = tt
  adjacent_order (x ∷ []) each = (tt, tt)
  adjacent_order (x ∷ y ∷ xs) each =
      let less : IsBefore (called x) (called y) = each 0 (omega arith) in
      let rest : AreInOrder called (y ∷ xs) =
      adjacent_order (y ∷ xs) (λ k lt. subst (λ (m : ℕ). IsBefore (get_or (names_of called (y ∷ xs)) k []) (get_or (names_of called (x ∷ y ∷ xs)) m [])) (sym (next k)) (each (suc k) (omega (arith, lt)))) in
      ((less, before_all_then called (called x) (called y) xs less rest.0), rest)
    where
      next : (k : ℕ) → suc (k + 1) ≡ suc k + 1
      next k = omega arith

  pub adjacent_more : (xs : List X) (at : ℕ) (x y : X) → at < length xs → 0 < at → ((k : ℕ) → k + 1 < at → IsBefore (get_or (names_of called xs) k []) (get_or (names_of called xs) (k + 1) [])) → x ≡ get_or xs (at - 1) x → y ≡ get_or xs at y
      → IsBefore (called x) (called y) → (k : ℕ) → k + 1 < at + 1 → IsBefore (get_or (names_of called xs) k []) (get_or (names_of called xs) (k + 1) [])
  adjacent_more xs at x y lt some before is_x is_y less k small = elim (cases_eq (k + 1) at) [
    | inl e ↦
        let here : k ≡ at - 1 = omega (arith, e) in
        let first : get_or (names_of called xs) k [] ≡ called x = ap (λ (m : ℕ). get_or (names_of called xs) m []) here ∙ name_at xs (at - 1) x (omega (arith, lt)) is_x in
        let second : get_or (names_of called xs) (k + 1) [] ≡ called y = ap (λ (m : ℕ). get_or (names_of called xs) m []) e ∙ name_at xs at y lt is_y in
        subst (λ (n : List ℕ). IsBefore n (get_or (names_of called xs) (k + 1) [])) (sym first) (subst (λ (n : List ℕ). IsBefore (called x) n) (sym second) less)
    | inr ne ↦ before k (omega (arith, small, ne))
  ]
