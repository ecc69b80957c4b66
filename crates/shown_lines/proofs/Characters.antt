-- A text that is shown character by character.
use Rattle.std.proofs.Common.{◌≡◌, ℕ, suc, ◌<◌, ◌≤◌, false, List, [], ◌∷◌, ◌++◌, length, get_or, encode_utf8, refl, sym, ap, ◌∙◌, arith, append_assoc, append-nil}
use Rattle.std.proofs.lemmas.Bool.Decides.{nat_tests}
use Rattle.std.proofs.lemmas.Str.{encode_ascii, inside_one, length-encode, len_utf8_bounds}
use Rattle.std.proofs.lemmas.Grind.{flat_map-append}
use Rattle.std.specs.List.{flat_map}
use Rattle.shown_lines.specs.Lines.{is_control, shown, shown_byte}

wide_byte : (b : ℕ) → 128 ≤ b → is_control b ≡ false
wide_byte b h = grind (arith, nat_tests)

plain_byte : (b : ℕ) → is_control b ≡ false → shown_byte b ≡ b ∷ []
plain_byte b h = rw h refl

-- bytes of characters that aren't ASCII are shown as they are
wide : (bs : List ℕ) → ((k : ℕ) → k < length bs → 128 ≤ get_or bs k 0) → shown bs ≡ bs
wide [] w = refl
wide (b ∷ bs) w =
    let first : 128 ≤ b = w 0 (omega arith) in
    rw (plain_byte b (wide_byte b first)) (ap (λ (l : List ℕ). b ∷ l) (wide bs (λ k lt. w (suc k) (omega (arith, lt)))))

wide_bytes : (c k : ℕ) → 128 ≤ c → k < length (encode_utf8 c) → 128 ≤ get_or (encode_utf8 c) k 0
wide_bytes c k h lt = grind (arith, inside_one c [] (encode_utf8 c) k (sym (append-nil (encode_utf8 c))) lt)

pub shown_wide : (c : ℕ) → 128 ≤ c → shown (encode_utf8 c) ≡ encode_utf8 c
shown_wide c h = wide (encode_utf8 c) (λ k lt. wide_bytes c k h lt)

pub shown_ascii : (c : ℕ) → c < 128 → shown (encode_utf8 c) ≡ shown_byte c
shown_ascii c h = rw (encode_ascii c h) (append-nil (shown_byte c))

-- one character more
pub one_more : (c : ℕ) (old rest out new text : List ℕ) → old ≡ encode_utf8 c ++ rest → new ≡ out ++ shown (encode_utf8 c) → out ++ shown old ≡ text → new ++ shown rest ≡ text
one_more c old rest out new text step added so_far =
    ap (λ (l : List ℕ). l ++ shown rest) added
    ∙ append_assoc out (shown (encode_utf8 c)) (shown rest)
    ∙ ap (λ (l : List ℕ). out ++ l) (sym (flat_map-append shown_byte (encode_utf8 c) rest) ∙ ap shown (sym step))
    ∙ so_far
