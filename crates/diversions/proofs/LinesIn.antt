-- Lines one after another.
use Rattle.std.proofs.Common.{◌≡◌, ◌+◌, ◌-◌, ◌<◌, ℕ, suc, cond, List, [], ◌∷◌, ◌++◌, length, take, drop, get_or, refl, sym, ap, ◌∙◌, arith}
use Rattle.std.specs.List.{onto_first}
use Rattle.std.proofs.lemmas.Bool.{ne_eqb}
use Rattle.std.proofs.lemmas.List.{take_all, drop_more, get_or-take, take-append-drop}
use Rattle.diversions.specs.Lines.{lines_in}

-- no byte of it is a newline
abbrev IsOneLine : List ℕ → Type 0
IsOneLine line = (k : ℕ) → k < length line → get_or line k 0 ≡ 10 → ⊥

later : (x : ℕ) (xs : List ℕ) → IsOneLine (x ∷ xs) → IsOneLine xs
later x xs h = λ k lt e. h (suc k) (omega arith) e

lines_cut : (line after : List ℕ) → IsOneLine line → lines_in (line ++ 10 ∷ after) ≡ line ∷ lines_in after
lines_cut [] after h = refl
lines_cut (x ∷ line) after h =
    ap (λ b. cond b ([] ∷ lines_in (line ++ 10 ∷ after)) (onto_first x (lines_in (line ++ 10 ∷ after)))) (ne_eqb x 10 (h 0 (omega arith)))
    ∙ ap (onto_first x) (lines_cut line after (later x line h))

last_line : (x : ℕ) (line : List ℕ) → IsOneLine (x ∷ line) → lines_in (x ∷ line) ≡ (x ∷ line) ∷ []
last_line x [] h = ap (λ b. cond b ([] ∷ []) (onto_first x [])) (ne_eqb x 10 (h 0 (omega arith)))
last_line x (y ∷ line) h =
    ap (λ b. cond b ([] ∷ lines_in (y ∷ line)) (onto_first x (lines_in (y ∷ line)))) (ne_eqb x 10 (h 0 (omega arith)))
    ∙ ap (onto_first x) (last_line y line (later x (y ∷ line) h))

-- the text up to a first newline, and the text behind it
pub line_at : (text line back : List ℕ) (i : ℕ) → i < length text → line ≡ take i text → length line ≡ i → back ≡ drop i text → get_or text i 0 ≡ 10 → ((k : ℕ) → k < i → get_or text k 0 ≡ 10 → ⊥)
    → lines_in text ≡ line ∷ lines_in (take (length back - 1) (drop 1 back))
line_at text line back i lt front size rear here before =
    let after = drop (i + 1) text in
    let back_is : back ≡ 10 ∷ after = rear ∙ drop_more text i 0 lt ∙ ap (λ (x : ℕ). x ∷ after) here in
    let text_is : text ≡ line ++ 10 ∷ after = sym (take-append-drop i text) ∙ ap (λ (l : List ℕ). take i text ++ l) (sym rear ∙ back_is) ∙ ap (λ (l : List ℕ). l ++ 10 ∷ after) (sym front) in
    let one : IsOneLine line = λ k small e. before k (omega arith) (sym (get_or-take i text k 0 (omega arith)) ∙ ap (λ (l : List ℕ). get_or l k 0) (sym front) ∙ e) in
    let left : take (length back - 1) (drop 1 back) ≡ after = ap (λ (l : List ℕ). take (length l - 1) (drop 1 l)) back_is ∙ take_all (length (10 ∷ after) - 1) after (omega arith) in
    ap lines_in text_is ∙ lines_cut line after one ∙ ap (λ (l : List ℕ). line ∷ lines_in l) (sym left)

-- a text without newline is its only line
pub only_line : (text line rest : List ℕ) → 0 < length text → ((k : ℕ) → k < length text → get_or text k 0 ≡ 10 → ⊥) → line ≡ take (length text) text → rest ≡ drop (length text) text → lines_in text ≡ line ∷ lines_in rest
only_line [] line rest some one front rear = absurd (omega (arith, some))
only_line (x ∷ text) line rest some one front rear =
    let all : line ≡ x ∷ text = front ∙ take_all (length (x ∷ text)) (x ∷ text) (omega arith) in
    last_line x text one ∙ ap (λ (l : List ℕ). l ∷ []) (sym all) ∙ ap (λ (l : List ℕ). line ∷ lines_in l) (sym (rear ∙ none (x ∷ text)))
  where
    none : (l : List ℕ) → drop (length l) l ≡ []
    none [] = refl
    none (y ∷ l) = none l
