-- What stands at the place of a name, put in or taken away there.
use Rattle.std.proofs.Common.{◌≡◌, ◌≢◌, inl, inr, ℕ, zero, suc, ◌<◌, List, [], ◌∷◌, length, get_or, Some, None, refl, sym, ap, subst, ◌∙◌, arith, Contains}
use Rattle.std.proofs.Math.ListN.{set}
use Rattle.std.specs.List.{insert, remove}
use Rattle.std.proofs.lemmas.Bool.{cases_lt, cases_eq}
use Rattle.std.proofs.lemmas.List.{length-map, get_or_default}
use Rattle.name_tables.specs.Order.{IsBefore, IsBeforeAll, AreInOrder, IsPlaceOf, IsThere, names_of}
use Rattle.name_tables.specs.Tables.{value_in, drop_value, place_value, put_value}
use Rattle.name_tables.proofs.Names.{either_before, not_before_itself}
use Rattle.name_tables.proofs.Ordered.{before_all_then, found_here, found_later, no_value, nothing_dropped, dropped_here, dropped_later, placed_first, put_first, put_later}
use Rattle.name_tables.proofs.Searching.{order_at}

module _ {X : Type 0} (called : X → List ℕ) where
  pub place_behind : (x : X) (xs : List X) (name : List ℕ) (i : ℕ) → IsPlaceOf called (x ∷ xs) name (suc i) → IsPlaceOf called xs name i
  place_behind x xs name i is = record {
    within = omega (arith, is.within);
    before = λ k less. is.before (suc k) (omega (arith, less));
    here = λ less. is.here (omega (arith, less));
  }

  behind_first : (name : List ℕ) (x : X) (xs : List X) → AreInOrder called (x ∷ xs) → IsPlaceOf called (x ∷ xs) name 0 → called x ≢ name → IsBeforeAll called name (x ∷ xs)
  behind_first name x xs order is ne = let less = either_before (called x) name ne (is.here (omega arith)) in (less, before_all_then called name (called x) xs less order.0)

  pub found_there : (name : List ℕ) (xs : List X) (at : ℕ) (d : X) → AreInOrder called xs → IsPlaceOf called xs name at → at < length xs → get_or (names_of called xs) at [] ≡ name → value_in called xs name ≡ Some (get_or xs at d)
  found_there name [] at d order is lt e = absurd (omega (arith, lt))
  found_there name (x ∷ xs) zero d order is lt e = found_here called xs x name e
  found_there name (x ∷ xs) (suc i) d order is lt e = found_later called name x xs (is.before 0 (omega arith)) ∙ found_there name xs i d order.1 (place_behind x xs name i is) (omega (arith, lt)) e

  pub found_nowhere : (name : List ℕ) (xs : List X) (at : ℕ) → AreInOrder called xs → IsPlaceOf called xs name at → (at < length xs → get_or (names_of called xs) at [] ≢ name) → value_in called xs name ≡ None
  found_nowhere name [] at order is ne = refl
  found_nowhere name (x ∷ xs) zero order is ne = no_value called name (x ∷ xs) (behind_first name x xs order is (ne (omega arith)))
  found_nowhere name (x ∷ xs) (suc i) order is ne = found_later called name x xs (is.before 0 (omega arith)) ∙ found_nowhere name xs i order.1 (place_behind x xs name i is) (λ lt. ne (omega (arith, lt)))

  pub dropped_there : (name : List ℕ) (xs : List X) (at : ℕ) → AreInOrder called xs → IsPlaceOf called xs name at → at < length xs → get_or (names_of called xs) at [] ≡ name → remove xs at ≡ drop_value called name xs
  dropped_there name [] at order is lt e = absurd (omega (arith, lt))
  dropped_there name (x ∷ xs) zero order is lt e = sym (dropped_here called name x xs e order.0)
  dropped_there name (x ∷ xs) (suc i) order is lt e =
      ap (λ (l : List X). x ∷ l) (dropped_there name xs i order.1 (place_behind x xs name i is) (omega (arith, lt)) e) ∙ sym (dropped_later called name x xs (is.before 0 (omega arith)))

  pub dropped_nowhere : (name : List ℕ) (xs : List X) (at : ℕ) → AreInOrder called xs → IsPlaceOf called xs name at → (at < length xs → get_or (names_of called xs) at [] ≢ name) → drop_value called name xs ≡ xs
  dropped_nowhere name [] at order is ne = refl
  dropped_nowhere name (x ∷ xs) zero order is ne = nothing_dropped called name (x ∷ xs) (behind_first name x xs order is (ne (omega arith)))
  dropped_nowhere name (x ∷ xs) (suc i) order is ne =
      dropped_later called name x xs (is.before 0 (omega arith)) ∙ ap (λ (l : List X). x ∷ l) (dropped_nowhere name xs i order.1 (place_behind x xs name i is) (λ lt. ne (omega (arith, lt))))

  pub put_there : (x : X) (xs : List X) (at : ℕ) → AreInOrder called xs → IsPlaceOf called xs (called x) at → at < length xs → get_or (names_of called xs) at [] ≡ called x → set xs at x ≡ put_value called x xs
  put_there x [] at order is lt e = absurd (omega (arith, lt))
  put_there x (y ∷ ys) zero order is lt e =
      sym (ap (place_value called x) (dropped_here called (called x) y ys e order.0) ∙ placed_first called x ys (subst (λ (n : List ℕ). IsBeforeAll called n ys) e order.0))
  put_there x (y ∷ ys) (suc i) order is lt e =
      ap (λ (l : List X). y ∷ l) (put_there x ys i order.1 (place_behind y ys (called x) i is) (omega (arith, lt)) e) ∙ sym (put_later called x y ys (is.before 0 (omega arith)))

  pub put_between : (x : X) (xs : List X) (at : ℕ) → AreInOrder called xs → IsPlaceOf called xs (called x) at → (at < length xs → get_or (names_of called xs) at [] ≢ called x) → insert xs at x ≡ put_value called x xs
  put_between x [] zero order is ne = refl
  put_between x [] (suc i) order is ne = absurd (omega (arith, is.within))
  put_between x (y ∷ ys) zero order is ne = sym (put_first called x (y ∷ ys) (behind_first (called x) y ys order is (ne (omega arith))))
  put_between x (y ∷ ys) (suc i) order is ne =
      ap (λ (l : List X). y ∷ l) (put_between x ys i order.1 (place_behind y ys (called x) i is) (λ lt. ne (omega (arith, lt)))) ∙ sym (put_later called x y ys (is.before 0 (omega arith)))

  -- what was told of a slice and a name that are these

  pub place_for : (xs ys : List X) (name other : List ℕ) (at : ℕ) → ys ≡ xs → other ≡ name → IsPlaceOf called ys other at → IsPlaceOf called xs name at
  place_for xs ys name other at same is place = subst (λ (n : List ℕ). IsPlaceOf called xs n at) is (subst (λ (l : List X). IsPlaceOf called l other at) same place)

  pub there_for : (xs ys : List X) (name other : List ℕ) (at : ℕ) → ys ≡ xs → other ≡ name → IsThere called ys other at → IsThere called xs name at
  there_for xs ys name other at same is there = subst (λ (n : List ℕ). IsThere called xs n at) is (subst (λ (l : List X). IsThere called l other at) same there)

  pub not_there_for : (xs ys : List X) (name other : List ℕ) (at : ℕ) → ys ≡ xs → other ≡ name → (IsThere called ys other at → ⊥) → at < length xs → get_or (names_of called xs) at [] ≢ name
  not_there_for xs ys name other at same is absent lt e = absurd (absent (there_for ys xs other name at (sym same) (sym is) (lt, e)))

  -- a name whose place another has, or none, stands nowhere
  pub stands_nowhere : (xs : List X) (name : List ℕ) (at : ℕ) → AreInOrder called xs → IsPlaceOf called xs name at → (IsThere called xs name at → ⊥) → Contains (names_of called xs) name → ⊥
  stands_nowhere xs name at order place absent has =
      let k = has.0 in
      let lt : k < length xs = subst (λ (n : ℕ). k < n) (length-map xs called) has.1 in
      let here : get_or (names_of called xs) k [] ≡ name = sym (get_or_default (names_of called xs) k name [] has.1) ∙ has.2 in
      elim (cases_lt k at) [
        | inl less ↦ not_before_itself name (subst (λ (n : List ℕ). IsBefore n name) here (place.before k less))
        | inr up ↦ elim (cases_eq k at) [
          | inl same ↦ absent (subst (λ (i : ℕ). IsThere called xs name i) same (lt, here))
          | inr ne ↦
              let behind : at < k = omega (arith, up, ne) in
              place.here (omega (arith, behind, lt)) (subst (λ (n : List ℕ). IsBefore (get_or (names_of called xs) at []) n) here (order_at called xs at k order behind lt))
        ]
      ]
