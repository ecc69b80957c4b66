-- What a table has under each name, once a value was put in or taken away.
use Rattle.std.proofs.Common.{◌≡◌, ℕ, Bool, true, false, cond, not, List, [], ◌∷◌, Option, Some, None, refl, sym, ap, ◌∙◌}
use Rattle.std.specs.List.{AllByRecursion}
use Rattle.std.specs.Str.{bytes_eq}
use Rattle.std.specs.Ordering.{nat_cmp, is_lt}
use Rattle.std.specs.Cmp.Lexicographic.{slice_cmp}
use Rattle.std.proofs.lemmas.Bool.{true≢false, false_from_ne_true}
use Rattle.std.proofs.lemmas.Slice.Eq.{bytes_eq-Decides}
use Rattle.name_tables.specs.Tables.{value_in, drop_value, place_value, put_value}
use Rattle.name_tables.proofs.Ordered.{lacks}

module _ {X : Type 0} (called : X → List ℕ) where
  -- without a name

  without_head : (b d : Bool) (name q : List ℕ) (x : X) (rest : List X) (old : Option X) → bytes_eq (called x) name ≡ b → bytes_eq (called x) q ≡ d → value_in called rest q ≡ cond (bytes_eq name q) None old
      → value_in called (cond (not b) (x ∷ rest) rest) q ≡ cond (bytes_eq name q) None (cond d (Some x) old)
  without_head true true name q x rest old e f so_far =
      so_far ∙ ap (λ t. cond t None old) yes ∙ sym (ap (λ t. cond t None (Some x)) yes)
    where
      yes : bytes_eq name q ≡ true
      yes = (bytes_eq-Decides name q).1 (sym ((bytes_eq-Decides (called x) name).0 e) ∙ (bytes_eq-Decides (called x) q).0 f)
  without_head true false name q x rest old e f so_far = so_far
  without_head false true name q x rest old e f so_far =
      ap (λ t. cond t (Some x) (value_in called rest q)) f ∙ sym (ap (λ t. cond t None (Some x)) differ)
    where
      differ : bytes_eq name q ≡ false
      differ = false_from_ne_true (bytes_eq name q) (λ t. true≢false (sym ((bytes_eq-Decides (called x) name).1 ((bytes_eq-Decides (called x) q).0 f ∙ sym ((bytes_eq-Decides name q).0 t))) ∙ e))
  without_head false false name q x rest old e f so_far = ap (λ t. cond t (Some x) (value_in called rest q)) f ∙ so_far

  pub value_in-drop_value : (name : List ℕ) (xs : List X) (q : List ℕ) → value_in called (drop_value called name xs) q ≡ cond (bytes_eq name q) None (value_in called xs q)
  value_in-drop_value name [] q = none_either (bytes_eq name q)
    where
      none_either : (b : Bool) → ◌≡◌ {A = Option X} None (cond b None None)
      none_either true = refl
      none_either false = refl
  value_in-drop_value name (x ∷ xs) q = without_head (bytes_eq (called x) name) (bytes_eq (called x) q) name q x (drop_value called name xs) (value_in called xs q) refl refl (value_in-drop_value name xs q)

  -- with a value

  placed_head : (l b : Bool) (x y : X) (q : List ℕ) (rest old : List X) → bytes_eq (called y) (called x) ≡ false → value_in called rest q ≡ cond (bytes_eq (called x) q) (Some x) (value_in called old q)
      → bytes_eq (called y) q ≡ b → value_in called (cond l (y ∷ rest) (x ∷ y ∷ old)) q ≡ cond (bytes_eq (called x) q) (Some x) (value_in called (y ∷ old) q)
  placed_head false b x y q rest old differ so_far e = refl
  placed_head true true x y q rest old differ so_far e =
      ap (λ t. cond t (Some y) (value_in called rest q)) e ∙ sym (ap (λ t. cond t (Some x) (cond (bytes_eq (called y) q) (Some y) (value_in called old q))) other ∙ ap (λ t. cond t (Some y) (value_in called old q)) e)
    where
      other : bytes_eq (called x) q ≡ false
      other = false_from_ne_true (bytes_eq (called x) q) (λ t. true≢false (sym ((bytes_eq-Decides (called y) (called x)).1 ((bytes_eq-Decides (called y) q).0 e ∙ sym ((bytes_eq-Decides (called x) q).0 t))) ∙ differ))
  placed_head true false x y q rest old differ so_far e =
      ap (λ t. cond t (Some y) (value_in called rest q)) e ∙ so_far ∙ ap (λ o. cond (bytes_eq (called x) q) (Some x) o) (sym (ap (λ t. cond t (Some y) (value_in called old q)) e))

  value_in-place_value : (x : X) (xs : List X) (q : List ℕ) → AllByRecursion (λ y. bytes_eq (called y) (called x) ≡ false) xs → value_in called (place_value called x xs) q ≡ cond (bytes_eq (called x) q) (Some x) (value_in called xs q)
  value_in-place_value x [] q apart = refl
  value_in-place_value x (y ∷ ys) q apart =
      placed_head (is_lt (slice_cmp nat_cmp (called y) (called x))) (bytes_eq (called y) q) x y q (place_value called x ys) ys apart.0 (value_in-place_value x ys q apart.1) refl

  covered : (b : Bool) (m n o : Option X) → cond b m (cond b n o) ≡ cond b m o
  covered true m n o = refl
  covered false m n o = refl

  pub value_in-put_value : (x : X) (xs : List X) (q : List ℕ) → value_in called (put_value called x xs) q ≡ cond (bytes_eq (called x) q) (Some x) (value_in called xs q)
  value_in-put_value x xs q =
      value_in-place_value x (drop_value called (called x) xs) q (lacks called (called x) xs)
      ∙ ap (λ o. cond (bytes_eq (called x) q) (Some x) o) (value_in-drop_value (called x) xs q)
      ∙ covered (bytes_eq (called x) q) (Some x) None (value_in called xs q)
