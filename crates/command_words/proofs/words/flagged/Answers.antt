use Rattle.std.proofs.Common.{arith, ◌≡◌, ◌<◌, ◌-◌, ℕ, List, [], ◌∷◌, length, drop, take, get_or, map, string_bytes, ap, sym, ◌∙◌}
use Rattle.std.proofs.lemmas.List.{length-drop}
use Rattle.std.proofs.Math.Seq.{take-length}
use Rattle.command_words.specs.Commands.{flagged, flagged_by}
use Rattle.command_words.proofs.words.flagged.Goals as goal

-- what stands behind the second word, up to the end
rest_taken : {S : Type 0} (words : List S) → take (length words - 2) (drop 2 words) ≡ drop 2 words
rest_taken {S} words = ap (λ n. take n (drop 2 words)) (sym (length-drop 2 words)) ∙ take-length (drop 2 words)

second_flagged : {S : Type 0} (text_of : S → List ℕ) (words : List S) (word : S) → 1 < length words → ((d : S) → word ≡ get_or words 1 d)
    → flagged (map text_of words) ≡ flagged_by (text_of word) (map text_of (drop 2 words))
second_flagged text_of [] word more is = absurd (omega arith)
second_flagged text_of (program ∷ []) word more is = absurd (omega arith)
second_flagged {S} text_of (program ∷ name ∷ rest) word more is =
    ap (λ (w : S). flagged_by (text_of w) (map text_of rest)) (sym (is program))

pub returns-in-Some : goal.returns-in-Some
returns-in-Some c =
    let second = c.in-Some.ensures.lookup.3 in
    let word = c.in-Some.word.now in
    let words = c.args.words.now in
    c.flagged_by.ensures
    ∙ ap (λ (w : List ℕ). flagged_by w (map string_bytes (take (length words - 2) (drop 2 words)))) c.as_str.ensures.value
    ∙ ap (λ l. flagged_by (string_bytes word) (map string_bytes l)) (rest_taken words)
    ∙ sym (second_flagged string_bytes words word second.0 second.1)
