-- Values in the order of names, one of them looked up, put in or taken away.
use Rattle.std.proofs.Common.{◌≡◌, ◌≢◌, ℕ, Bool, true, false, cond, not, List, [], ◌∷◌, Some, None, refl, sym, ap, subst, ◌∙◌}
use Rattle.std.specs.List.{AllByRecursion}
use Rattle.std.specs.Str.{bytes_eq}
use Rattle.std.specs.Ordering.{nat_cmp, is_lt}
use Rattle.std.specs.Cmp.Lexicographic.{slice_cmp}
use Rattle.std.proofs.lemmas.Bool.{true≢false, false_from_ne_true}
use Rattle.std.proofs.lemmas.Slice.Eq.{bytes_eq-Decides}
use Rattle.name_tables.specs.Order.{IsBefore, IsBeforeAll, AreInOrder, names_of}
use Rattle.name_tables.specs.Tables.{value_in, drop_value, place_value, put_value}
use Rattle.name_tables.proofs.Names.{not_before_itself, before_differs, before_then, either_before, told_before, not_told_before, differs}

module _ {X : Type 0} (called : X → List ℕ) where
  -- what is found

  pub found_here : (xs : List X) (x : X) (name : List ℕ) → called x ≡ name → value_in called (x ∷ xs) name ≡ Some x
  found_here xs x name e = ap (λ b. cond b (Some x) (value_in called xs name)) ((bytes_eq-Decides (called x) name).1 e)

  pub passed_over : (xs : List X) (x : X) (name : List ℕ) → called x ≢ name → value_in called (x ∷ xs) name ≡ value_in called xs name
  passed_over xs x name ne = ap (λ b. cond b (Some x) (value_in called xs name)) (differs (called x) name ne)

  -- a name before all of a table

  pub before_all_then : (a b : List ℕ) (xs : List X) → IsBefore a b → IsBeforeAll called b xs → IsBeforeAll called a xs
  before_all_then a b [] less all = tt
  before_all_then a b (x ∷ xs) less all = (before_then a b (called x) less all.0, before_all_then a b xs less all.1)

  pub no_value : (name : List ℕ) (xs : List X) → IsBeforeAll called name xs → value_in called xs name ≡ None
  no_value name [] all = refl
  no_value name (x ∷ xs) all = passed_over xs x name (λ e. before_differs name (called x) all.0 (sym e)) ∙ no_value name xs all.1

  pub nothing_dropped : (name : List ℕ) (xs : List X) → IsBeforeAll called name xs → drop_value called name xs ≡ xs
  nothing_dropped name [] all = refl
  nothing_dropped name (x ∷ xs) all =
      ap (λ b. cond (not b) (x ∷ drop_value called name xs) (drop_value called name xs)) (differs (called x) name (λ e. before_differs name (called x) all.0 (sym e)))
      ∙ ap (λ (l : List X). x ∷ l) (nothing_dropped name xs all.1)

  pub placed_first : (x : X) (xs : List X) → IsBeforeAll called (called x) xs → place_value called x xs ≡ x ∷ xs
  placed_first x [] all = refl
  placed_first x (y ∷ ys) all =
      ap (λ b. cond b (y ∷ place_value called x ys) (x ∷ y ∷ ys))
      (false_from_ne_true (is_lt (slice_cmp nat_cmp (called y) (called x))) (λ t. not_before_itself (called y) (before_then (called y) (called x) (called y) (told_before (slice_cmp nat_cmp (called y) (called x)) t) all.0)))

  pub put_first : (x : X) (xs : List X) → IsBeforeAll called (called x) xs → put_value called x xs ≡ x ∷ xs
  put_first x xs all = ap (place_value called x) (nothing_dropped (called x) xs all) ∙ placed_first x xs all

  -- the first value is of this name
  pub dropped_here : (name : List ℕ) (x : X) (xs : List X) → called x ≡ name → IsBeforeAll called (called x) xs → drop_value called name (x ∷ xs) ≡ xs
  dropped_here name x xs e all =
      ap (λ b. cond (not b) (x ∷ drop_value called name xs) (drop_value called name xs)) ((bytes_eq-Decides (called x) name).1 e)
      ∙ nothing_dropped name xs (subst (λ (n : List ℕ). IsBeforeAll called n xs) e all)

  -- the first value is before this name

  pub dropped_later : (name : List ℕ) (x : X) (xs : List X) → IsBefore (called x) name → drop_value called name (x ∷ xs) ≡ x ∷ drop_value called name xs
  dropped_later name x xs less = ap (λ b. cond (not b) (x ∷ drop_value called name xs) (drop_value called name xs)) (differs (called x) name (before_differs (called x) name less))

  pub put_later : (x y : X) (ys : List X) → IsBefore (called y) (called x) → put_value called x (y ∷ ys) ≡ y ∷ put_value called x ys
  put_later x y ys less =
      ap (place_value called x) (dropped_later (called x) y ys less) ∙ ap (λ o. cond (is_lt o) (y ∷ place_value called x (drop_value called (called x) ys)) (x ∷ y ∷ drop_value called (called x) ys)) less

  pub found_later : (name : List ℕ) (x : X) (xs : List X) → IsBefore (called x) name → value_in called (x ∷ xs) name ≡ value_in called xs name
  found_later name x xs less = passed_over xs x name (before_differs (called x) name less)

  -- the order stays

  pub all_left : (P : X → Type 0) (name : List ℕ) (xs : List X) → AllByRecursion P xs → AllByRecursion P (drop_value called name xs)
  all_left P name [] all = tt
  all_left P name (x ∷ xs) all = by (not (bytes_eq (called x) name)) (all_left P name xs all.1)
    where
      by : (b : Bool) → AllByRecursion P (drop_value called name xs) → AllByRecursion P (cond b (x ∷ drop_value called name xs) (drop_value called name xs))
      by true rest = (all.0, rest)
      by false rest = rest

  pub all_placed : (P : X → Type 0) (x : X) (xs : List X) → P x → AllByRecursion P xs → AllByRecursion P (place_value called x xs)
  all_placed P x [] here all = (here, tt)
  all_placed P x (y ∷ ys) here all = by (is_lt (slice_cmp nat_cmp (called y) (called x))) (all_placed P x ys here all.1)
    where
      by : (b : Bool) → AllByRecursion P (place_value called x ys) → AllByRecursion P (cond b (y ∷ place_value called x ys) (x ∷ y ∷ ys))
      by true rest = (all.0, rest)
      by false rest = (here, all)

  pub all_put : (P : X → Type 0) (x : X) (xs : List X) → P x → AllByRecursion P xs → AllByRecursion P (put_value called x xs)
  all_put P x xs here all = all_placed P x (drop_value called (called x) xs) here (all_left P (called x) xs all)

  pub dropped_order : (name : List ℕ) (xs : List X) → AreInOrder called xs → AreInOrder called (drop_value called name xs)
  dropped_order name [] order = tt
  dropped_order name (x ∷ xs) order = by (not (bytes_eq (called x) name)) (dropped_order name xs order.1)
    where
      by : (b : Bool) → AreInOrder called (drop_value called name xs) → AreInOrder called (cond b (x ∷ drop_value called name xs) (drop_value called name xs))
      by true rest = (all_left (λ y. IsBefore (called x) (called y)) name xs order.0, rest)
      by false rest = rest

  placed_order : (x : X) (xs : List X) → AllByRecursion (λ y. bytes_eq (called y) (called x) ≡ false) xs → AreInOrder called xs → AreInOrder called (place_value called x xs)
  placed_order x [] without order = (tt, tt)
  placed_order x (y ∷ ys) without order = by (is_lt (slice_cmp nat_cmp (called y) (called x))) refl (placed_order x ys without.1 order.1)
    where
      by : (b : Bool) → is_lt (slice_cmp nat_cmp (called y) (called x)) ≡ b → AreInOrder called (place_value called x ys) → AreInOrder called (cond b (y ∷ place_value called x ys) (x ∷ y ∷ ys))
      by true e rest = (all_placed (λ z. IsBefore (called y) (called z)) x ys (told_before (slice_cmp nat_cmp (called y) (called x)) e) order.0, rest)
      by false e rest =
          let less = either_before (called y) (called x) (λ s. true≢false (sym ((bytes_eq-Decides (called y) (called x)).1 s) ∙ without.0)) (not_told_before (slice_cmp nat_cmp (called y) (called x)) e) in
          ((less, before_all_then (called x) (called y) ys less order.0), order)

  pub lacks : (name : List ℕ) (xs : List X) → AllByRecursion (λ y. bytes_eq (called y) name ≡ false) (drop_value called name xs)
  lacks name [] = tt
  lacks name (x ∷ xs) = by (bytes_eq (called x) name) refl (lacks name xs)
    where
      by : (b : Bool) → bytes_eq (called x) name ≡ b → AllByRecursion (λ y. bytes_eq (called y) name ≡ false) (drop_value called name xs)
          → AllByRecursion (λ y. bytes_eq (called y) name ≡ false) (cond (not b) (x ∷ drop_value called name xs) (drop_value called name xs))
      by true e rest = rest
      by false e rest = (e, rest)

  pub put_order : (x : X) (xs : List X) → AreInOrder called xs → AreInOrder called (put_value called x xs)
  put_order x xs order = placed_order x (drop_value called (called x) xs) (lacks (called x) xs) (dropped_order (called x) xs order)

  -- the order of values, and of their names

  all_names : (name : List ℕ) (xs : List X) → IsBeforeAll called name xs → IsBeforeAll (λ (n : List ℕ). n) name (names_of called xs)
  all_names name [] all = tt
  all_names name (x ∷ xs) all = (all.0, all_names name xs all.1)

  pub names_in_order : (xs : List X) → AreInOrder called xs → AreInOrder (λ (n : List ℕ). n) (names_of called xs)
  names_in_order [] order = tt
  names_in_order (x ∷ xs) order = (all_names (called x) xs order.0, names_in_order xs order.1)

  all_values : (name : List ℕ) (xs : List X) → IsBeforeAll (λ (n : List ℕ). n) name (names_of called xs) → IsBeforeAll called name xs
  all_values name [] all = tt
  all_values name (x ∷ xs) all = (all.0, all_values name xs all.1)

  pub values_in_order : (xs : List X) → AreInOrder (λ (n : List ℕ). n) (names_of called xs) → AreInOrder called xs
  values_in_order [] order = tt
  values_in_order (x ∷ xs) order = (all_values (called x) xs order.0, values_in_order xs order.1)
