-- Slashes at the end of a text.
use Rattle.std.proofs.Common.{◌≡◌, ◌≤◌, ◌+◌, ◌-◌, ℕ, true, false, cond, List, [], ◌∷◌, ◌++◌, length, get_or, take, refl, sym, ap, ◌∙◌, arith}
use Rattle.std.proofs.lemmas.List.{take_all, take_more}
use Rattle.path_filters.specs.Filters.{is_slash, kept_before, trimmed}

kept_front : (b c : ℕ) (xs : List ℕ) → kept_before b (xs ++ c ∷ []) ≡ b ∷ (xs ++ c ∷ [])
kept_front b c [] = refl
kept_front b c (x ∷ xs) = refl

stays : (xs : List ℕ) (b : ℕ) → is_slash b ≡ false → trimmed (xs ++ b ∷ []) ≡ xs ++ b ∷ []
stays [] b e = ap (λ t. cond t [] (b ∷ [])) e
stays (x ∷ xs) b e = ap (kept_before x) (stays xs b e) ∙ kept_front x b xs

drops : (xs : List ℕ) (b : ℕ) → is_slash b ≡ true → trimmed (xs ++ b ∷ []) ≡ trimmed xs
drops [] b e = ap (λ t. cond t [] (b ∷ [])) e
drops (x ∷ xs) b e = ap (kept_before x) (drops xs b e)

split_last : (n : ℕ) (xs : List ℕ) → length xs ≡ n + 1 → xs ≡ take n xs ++ get_or xs n 0 ∷ []
split_last n xs e = sym (take_all (n + 1) xs (omega arith)) ∙ take_more xs n 0 (omega arith)

pub trimmed_more : (text : List ℕ) → 1 ≤ length text → is_slash (get_or text (length text - 1) 0) ≡ true → trimmed (take (length text - 1) text) ≡ trimmed text
trimmed_more text some slash =
    let e = split_last (length text - 1) text (omega arith) in
    sym (ap trimmed e ∙ drops (take (length text - 1) text) (get_or text (length text - 1) 0) slash)

pub trimmed_all : (text : List ℕ) → 1 ≤ length text → is_slash (get_or text (length text - 1) 0) ≡ false → text ≡ trimmed text
trimmed_all text some other =
    let e = split_last (length text - 1) text (omega arith) in
    e ∙ sym (stays (take (length text - 1) text) (get_or text (length text - 1) 0) other) ∙ ap trimmed (sym e)
