-- Words of a line.
use Rattle.std.proofs.Common.{◌≡◌, ℕ, suc, ◌+◌, ◌<◌, Bool, true, false, cond, ◌||◌, List, [], ◌∷◌, ◌++◌, length, take, get_or, refl, sym, ap, ◌∙◌, arith}
use Rattle.std.specs.List.{list_any}
use Rattle.std.proofs.lemmas.List.{take_more, length-take}
use Rattle.std.proofs.lemmas.List.Folds.{list_any-append}
use Rattle.control_fields.specs.Names.{is_blank}
use Rattle.status_records.specs.ConffileFields.{word_start}

-- a byte more

word_start_push : (xs : List ℕ) (b : ℕ) → word_start (xs ++ b ∷ []) ≡ cond (is_blank b) (suc (length xs)) (word_start xs)
word_start_push [] b = by (is_blank b)
  where
    by : (y : Bool) → cond (y || false) (suc 0) 0 ≡ cond y (suc 0) 0
    by true = refl
    by false = refl
word_start_push (x ∷ xs) b =
    ap (λ (y : Bool). cond (is_blank x || y) (suc (word_start (xs ++ b ∷ []))) 0) (list_any-append is_blank xs (b ∷ []))
    ∙ ap (λ (n : ℕ). cond (is_blank x || (list_any is_blank xs || (is_blank b || false))) (suc n) 0) (word_start_push xs b)
    ∙ by (is_blank x) (list_any is_blank xs) (is_blank b)
  where
    by : (a n y : Bool) → cond (a || (n || (y || false))) (suc (cond y (suc (length xs)) (word_start xs))) 0 ≡ cond y (suc (suc (length xs))) (cond (a || n) (suc (word_start xs)) 0)
    by true n true = refl
    by true n false = refl
    by false true true = refl
    by false true false = refl
    by false false true = refl
    by false false false = refl

pub start_more : (text : List ℕ) (i start : ℕ) → i < length text → start ≡ word_start (take i text) → word_start (take (i + 1) text) ≡ cond (is_blank (get_or text i 0)) (i + 1) start
start_more text i start lt so_far =
    let long : suc (length (take i text)) ≡ i + 1 = omega (arith, length-take i text) in
    ap word_start (take_more text i 0 lt) ∙ word_start_push (take i text) (get_or text i 0) ∙ ap (λ (n : ℕ). cond (is_blank (get_or text i 0)) n (word_start (take i text))) long
    ∙ ap (λ (n : ℕ). cond (is_blank (get_or text i 0)) (i + 1) n) (sym so_far)
