-- Some of the elements so far.
use Rattle.std.proofs.Common.{◌≡◌, ℕ, zero, suc, ◌+◌, ◌<◌, Bool, true, false, cond, List, [], ◌∷◌, ◌++◌, filter, take, length, get_or, map, refl, sym, ap, subst, ◌∙◌, arith}
use Rattle.std.specs.List.{list_any, AllByRecursion}
use Rattle.std.specs.Str.{bytes_eq}
use Rattle.std.proofs.lemmas.Bool.{false_from_ne_true, or_from, true≢false}
use Rattle.std.proofs.lemmas.List.{append-nil, map-append}
use Rattle.std.proofs.lemmas.List.Elements.{filter_more}
use Rattle.std.proofs.lemmas.Slice.Eq.{bytes_eq-Decides}
use Rattle.host_core.specs.Paths.{Path}
use Rattle.status_records.specs.ConffilePaths.{AreInOrder, is_before, placed_by}
use Rattle.status_records.proofs.PathOrder.{before_apart, placed_last}

module _ {X : Type 0} (keep : X → Bool) (xs : List X) (i : ℕ) (x : X) (lt : i < length xs) (at : x ≡ get_or xs i x) where
  one_more : (b : Bool) → keep x ≡ b → filter keep (take (i + 1) xs) ≡ filter keep (take i xs) ++ cond b (x ∷ []) []
  one_more b is =
      filter_more keep xs i x lt ∙ ap (λ y. filter keep (take i xs) ++ cond (keep y) (y ∷ []) []) (sym at) ∙ ap (λ t. filter keep (take i xs) ++ cond t (x ∷ []) []) is

  -- one that is kept, and one that isn't
  pub kept_more : keep x ≡ true → (so_far now : List X) (copy : X) → so_far ≡ filter keep (take i xs) → copy ≡ x → now ≡ so_far ++ copy ∷ [] → now ≡ filter keep (take (i + 1) xs)
  kept_more is so_far now copy before same more =
      more ∙ ap (λ (l : List X). l ++ copy ∷ []) before ∙ ap (λ y. filter keep (take i xs) ++ y ∷ []) same ∙ sym (one_more true is)

  pub left_out : keep x ≡ false → (so_far now : List X) → so_far ≡ filter keep (take i xs) → now ≡ so_far → now ≡ filter keep (take (i + 1) xs)
  left_out is so_far now before same = same ∙ before ∙ sym (one_more false is ∙ append-nil (filter keep (take i xs)))

  -- what is told of each
  module _ {Y : Type 0} (f : X → Y) where
    pub told_more : keep x ≡ true → (so_far now : List Y) (y : Y) → so_far ≡ map f (filter keep (take i xs)) → y ≡ f x → now ≡ so_far ++ y ∷ [] → now ≡ map f (filter keep (take (i + 1) xs))
    told_more is so_far now y before same more =
        more ∙ ap (λ (l : List Y). l ++ y ∷ []) before ∙ ap (λ z. map f (filter keep (take i xs)) ++ z ∷ []) same
        ∙ sym (ap (map f) (one_more true is) ∙ map-append f (filter keep (take i xs)) (x ∷ []))

    pub untold : keep x ≡ false → (so_far now : List Y) → so_far ≡ map f (filter keep (take i xs)) → now ≡ so_far → now ≡ map f (filter keep (take (i + 1) xs))
    untold is so_far now before same = same ∙ before ∙ sym (ap (map f) (one_more false is ∙ append-nil (filter keep (take i xs))))

-- what stands in path order stands so when some are left out

all_kept : {X : Type 0} (P : X → Type 0) (keep : X → Bool) (xs : List X) → AllByRecursion P xs → AllByRecursion P (filter keep xs)
all_kept P keep [] all = tt
all_kept P keep (x ∷ xs) all = by (keep x) (all_kept P keep xs all.1)
  where
    by : (b : Bool) → AllByRecursion P (filter keep xs) → AllByRecursion P (cond b (x ∷ filter keep xs) (filter keep xs))
    by true rest = (all.0, rest)
    by false rest = rest

module _ {X : Type 0} (path : X → Path) where
  all_at : (p : Path) (xs : List X) (i : ℕ) (x : X) → AllByRecursion (λ q. is_before p q ≡ true) (map path xs) → i < length xs → x ≡ get_or xs i x → is_before p (path x) ≡ true
  all_at p [] i x all lt at = absurd (omega (arith, lt))
  all_at p (y ∷ ys) zero x all lt at = ap (λ z. is_before p (path z)) at ∙ all.0
  all_at p (y ∷ ys) (suc i) x all lt at = all_at p ys i x all.1 (omega (arith, lt)) at

  before_at : (xs : List X) (i : ℕ) (x : X) → AreInOrder (map path xs) → i < length xs → x ≡ get_or xs i x → AllByRecursion (λ y. is_before (path y) (path x) ≡ true) (take i xs)
  before_at [] i x order lt at = absurd (omega (arith, lt))
  before_at (y ∷ ys) zero x order lt at = tt
  before_at (y ∷ ys) (suc i) x order lt at = (all_at (path y) ys i x order.0 (omega (arith, lt)) at, before_at ys i x order.1 (omega (arith, lt)) at)

  pub left_before : (keep : X → Bool) (xs : List X) (i : ℕ) (x copy : X) (so_far : List X) → AreInOrder (map path xs) → i < length xs → x ≡ get_or xs i x → copy ≡ x → so_far ≡ filter keep (take i xs) → AllByRecursion (λ y. is_before (path y) (path copy) ≡ true) so_far
  left_before keep xs i x copy so_far order lt at same is =
      subst (λ ys. AllByRecursion (λ y. is_before (path y) (path copy) ≡ true) ys) (sym is)
      (subst (λ z. AllByRecursion (λ y. is_before (path y) (path z) ≡ true) (filter keep (take i xs))) (sym same)
      (all_kept (λ y. is_before (path y) (path x) ≡ true) keep (take i xs) (before_at xs i x order lt at)))

  -- so it isn't there yet, and its place is the last

  other : (y x : X) → is_before (path y) (path x) ≡ true → bytes_eq (path x) (path y) ≡ false
  other y x before = false_from_ne_true (bytes_eq (path x) (path y))
      (λ t. true≢false (sym ((bytes_eq-Decides (path y) (path x)).1 (sym ((bytes_eq-Decides (path x) (path y)).0 t))) ∙ before_apart (path y) (path x) before))

  none_same : (x : X) (ys : List X) → AllByRecursion (λ y. is_before (path y) (path x) ≡ true) ys → list_any (λ y. bytes_eq (path x) (path y)) ys ≡ false
  none_same x [] all = refl
  none_same x (y ∷ ys) all = or_from (bytes_eq (path x) (path y)) (list_any (λ z. bytes_eq (path x) (path z)) ys) (other y x all.0) (none_same x ys all.1)

  pub left_new : (keep : X → Bool) (xs : List X) (i : ℕ) (x copy : X) (so_far : List X) → AreInOrder (map path xs) → i < length xs → x ≡ get_or xs i x → copy ≡ x → so_far ≡ filter keep (take i xs) → list_any (λ y. bytes_eq (path copy) (path y)) so_far ≡ false
  left_new keep xs i x copy so_far order lt at same is = none_same copy so_far (left_before keep xs i x copy so_far order lt at same is)

  pub left_last : (keep : X → Bool) (xs : List X) (i : ℕ) (x copy : X) (so_far : List X) → AreInOrder (map path xs) → i < length xs → x ≡ get_or xs i x → copy ≡ x → so_far ≡ filter keep (take i xs) → placed_by path copy so_far ≡ so_far ++ copy ∷ []
  left_last keep xs i x copy so_far order lt at same is = placed_last path copy so_far (left_before keep xs i x copy so_far order lt at same is)
