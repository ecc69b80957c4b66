-- Values that stand in lists.
use Rattle.std.proofs.Common.{◌≡◌, ◌⊎◌, inl, inr, ◌||◌, not, ℕ, Bool, true, false, cond, List, [], ◌∷◌, ◌++◌, map, filter, refl, sym, ap, subst, ◌∙◌}
use Rattle.std.specs.List.{flat_map, list_all, list_any}
use Rattle.std.specs.Str.{bytes_eq}
use Rattle.std.proofs.lemmas.Bool.{true≢false, and_parts, or_left, or_right}
use Rattle.std.proofs.lemmas.Slice.Eq.{bytes_eq-Decides}
use Rattle.trigger_watch.specs.Names.{each_once, is_among, without}

-- it stands in the list
abbrev pub IsIn : {X : Type 0} → X → List X → Type 0
IsIn x [] = ⊥
IsIn x (y ∷ ys) = (y ≡ x) ⊎ IsIn x ys

module _ {X : Type 0} where
  in_here : (p : X → Bool) (t : Bool) (y x : X) (ys : List X) → t ≡ true → y ≡ x → IsIn x (cond t (y ∷ filter p ys) (filter p ys))
  in_here p true y x ys on e = inl e
  in_here p false y x ys on e = absurd (true≢false (sym on))

  in_later : (p : X → Bool) (t : Bool) (y x : X) (ys : List X) → IsIn x (filter p ys) → IsIn x (cond t (y ∷ filter p ys) (filter p ys))
  in_later p true y x ys there = inr there
  in_later p false y x ys there = there

  pub in_filter : (p : X → Bool) (xs : List X) (x : X) → IsIn x xs → p x ≡ true → IsIn x (filter p xs)
  in_filter p [] x there on = there
  in_filter p (y ∷ ys) x (inl e) on = in_here p (p y) y x ys (ap p e ∙ on) e
  in_filter p (y ∷ ys) x (inr there) on = in_later p (p y) y x ys (in_filter p ys x there on)

  pub in_left : (xs ys : List X) (x : X) → IsIn x xs → IsIn x (xs ++ ys)
  in_left [] ys x there = absurd there
  in_left (y ∷ xs) ys x (inl e) = inl e
  in_left (y ∷ xs) ys x (inr there) = inr (in_left xs ys x there)

  pub in_right : (xs ys : List X) (x : X) → IsIn x ys → IsIn x (xs ++ ys)
  in_right [] ys x there = there
  in_right (y ∷ xs) ys x there = inr (in_right xs ys x there)

module _ {X Y : Type 0} where
  pub in_map : (f : X → Y) (xs : List X) (x : X) → IsIn x xs → IsIn (f x) (map f xs)
  in_map f [] x there = there
  in_map f (y ∷ ys) x (inl e) = inl (ap f e)
  in_map f (y ∷ ys) x (inr there) = inr (in_map f ys x there)

  pub in_flat_map : (f : X → List Y) (xs : List X) (x : X) (y : Y) → IsIn x xs → IsIn y (f x) → IsIn y (flat_map f xs)
  in_flat_map f [] x y there here = absurd there
  in_flat_map f (z ∷ xs) x y (inl e) here = in_left (f z) (flat_map f xs) y (subst (λ (v : X). IsIn y (f v)) (sym e) here)
  in_flat_map f (z ∷ xs) x y (inr there) here = in_right (f z) (flat_map f xs) y (in_flat_map f xs x y there here)

-- a test that one value passes
pub any_in : {X : Type 0} (p : X → Bool) (xs : List X) (x : X) → IsIn x xs → p x ≡ true → list_any p xs ≡ true
any_in p [] x there on = absurd there
any_in p (y ∷ ys) x (inl e) on = or_left (p y) (list_any p ys) (ap p e ∙ on)
any_in p (y ∷ ys) x (inr there) on = or_right (p y) (list_any p ys) (any_in p ys x there on)

-- the value that passes one
pub record Passes {X : Type 0} (p : X → Bool) (xs : List X) : Type 0 where
  pub one : X
  pub there : IsIn one xs
  pub on : p one ≡ true

pub passes_any : {X : Type 0} (p : X → Bool) (xs : List X) → list_any p xs ≡ true → Passes p xs
passes_any p [] any = absurd (true≢false (sym any))
passes_any {X} p (x ∷ xs) any = by (p x) refl (passes_any p xs)
  where
    by : (t : Bool) → p x ≡ t → (list_any p xs ≡ true → Passes p xs) → Passes p (x ∷ xs)
    by true e later = record { one = x; there = inl refl; on = e }
    by false e later = (let more = later (sym (ap (λ (t : Bool). t || list_any p xs) e) ∙ any) in record { one = more.one; there = inr more.there; on = more.on })

pub all_at : {X : Type 0} (p : X → Bool) (xs : List X) (x : X) → list_all p xs ≡ true → IsIn x xs → p x ≡ true
all_at p [] x all there = absurd there
all_at p (y ∷ ys) x all (inl e) = ap p (sym e) ∙ (and_parts (p y) (list_all p ys) all).0
all_at p (y ∷ ys) x all (inr there) = all_at p ys x (and_parts (p y) (list_all p ys) all).1 there

-- a name among names
pub named_in : (names : List (List ℕ)) (name : List ℕ) → is_among names name ≡ true → IsIn name names
named_in names name among =
    let found = passes_any (bytes_eq name) names among in
    subst (λ (n : List ℕ). IsIn n names) (sym ((bytes_eq-Decides name found.one).0 found.on)) found.there

pub in_among : (names : List (List ℕ)) (name : List ℕ) → IsIn name names → is_among names name ≡ true
in_among names name there = any_in (bytes_eq name) names name there ((bytes_eq-Decides name name).1 refl)

differs : (name other : List ℕ) → bytes_eq name other ≡ false → not (bytes_eq name other) ≡ true
differs name other e = ap not e

-- each once, it is among them still
pub once_in : (names : List (List ℕ)) (name : List ℕ) → IsIn name names → IsIn name (each_once names)
once_in [] name there = there
once_in (n ∷ names) name (inl e) = inl e
once_in (n ∷ names) name (inr there) = by (bytes_eq name n) refl (once_in names name there)
  where
    by : (t : Bool) → bytes_eq name n ≡ t → IsIn name (each_once names) → IsIn name (n ∷ without n (each_once names))
    by true e later = inl (sym ((bytes_eq-Decides name n).0 e))
    by false e later = inr (in_filter (λ (m : List ℕ). not (bytes_eq m n)) (each_once names) name later (differs name n e))
