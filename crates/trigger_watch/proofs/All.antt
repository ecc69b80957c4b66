-- What holds of each value of a list.
use Rattle.std.proofs.Common.{◌≡◌, Bool, true, false, List, [], ◌∷◌, ◌++◌, map, filter, refl, if◌then◌else◌}
use Rattle.std.specs.List.{AllByRecursion, flat_map}

-- what holds of both of two values holds of the one that is chosen
pub chosen : {X : Type 0} (P : X → Type 0) (b : Bool) (x y : X) → (b ≡ true → P x) → (b ≡ false → P y) → P (if b then x else y)
chosen P true x y one other = one refl
chosen P false x y one other = other refl

module _ {X : Type 0} (P : X → Type 0) where
  pub all_of : ((x : X) → P x) → (xs : List X) → AllByRecursion P xs
  all_of h [] = tt
  all_of h (x ∷ xs) = (h x, all_of h xs)

  pub all_append : (xs ys : List X) → AllByRecursion P xs → AllByRecursion P ys → AllByRecursion P (xs ++ ys)
  all_append [] ys a b = b
  all_append (x ∷ xs) ys a b = (a.0, all_append xs ys a.1 b)

  pub all_filter : (p : X → Bool) (xs : List X) → AllByRecursion P xs → AllByRecursion P (filter p xs)
  all_filter p [] a = tt
  all_filter p (x ∷ xs) a = chosen (AllByRecursion P) (p x) (x ∷ filter p xs) (filter p xs) (λ e. (a.0, all_filter p xs a.1)) (λ e. all_filter p xs a.1)

  pub all_weaker : (Q : X → Type 0) → ((x : X) → P x → Q x) → (xs : List X) → AllByRecursion P xs → AllByRecursion Q xs
  all_weaker Q h [] a = tt
  all_weaker Q h (x ∷ xs) a = (h x a.0, all_weaker Q h xs a.1)

  pub all_flat_map : {Y : Type 0} (f : Y → List X) → ((y : Y) → AllByRecursion P (f y)) → (ys : List Y) → AllByRecursion P (flat_map f ys)
  all_flat_map f h [] = tt
  all_flat_map f h (y ∷ ys) = all_append (f y) (flat_map f ys) (h y) (all_flat_map f h ys)

  pub all_map : {Y : Type 0} (f : Y → X) (ys : List Y) → AllByRecursion (λ y. P (f y)) ys → AllByRecursion P (map f ys)
  all_map f [] a = tt
  all_map f (y ∷ ys) a = (a.0, all_map f ys a.1)

-- what is kept passes the test
pub kept_pass : {X : Type 0} (p : X → Bool) (xs : List X) → AllByRecursion (λ x. p x ≡ true) (filter p xs)
kept_pass p [] = tt
kept_pass p (x ∷ xs) = chosen (AllByRecursion (λ y. p y ≡ true)) (p x) (x ∷ filter p xs) (filter p xs) (λ e. (e, kept_pass p xs)) (λ e. kept_pass p xs)
