-- Which lines give a digest.
use Rattle.std.proofs.Common.{◌≡◌, ℕ, ◌-◌, ◌<◌, ◌≤◌, Bool, true, false, ◌&&◌, List, codes, length, take, drop, refl, sym, ap, subst, ◌∙◌, arith}
use Rattle.std.specs.Str.{bytes_eq, is_utf8, IsUtf8}
use Rattle.std.proofs.Math.Seq.{take-length}
use Rattle.std.proofs.lemmas.Bool.{false_from_ne_true}
use Rattle.std.proofs.lemmas.List.{length-drop, length-take}
use Rattle.std.proofs.lemmas.Slice.Eq.{bytes_eq-Decides}
use Rattle.std.proofs.lemmas.Str.{IsUtf8-from_is_utf8, is_utf8-from_IsUtf8}
use Rattle.conffiles.specs.Digests.{is_digest_text}
use Rattle.verification.specs.Sums.{is_sum}

none_second : (a b c : Bool) → b ≡ false → (a && (b && c)) ≡ false
none_second true b c e = ap (λ t. t && c) e
none_second false b c e = refl

none_third : (a b c : Bool) → c ≡ false → (a && (b && c)) ≡ false
none_third true true c e = e
none_third true false c e = refl
none_third false b c e = refl

none_first : (a b c : Bool) → a ≡ false → (a && (b && c)) ≡ false
none_first a b c e = ap (λ t. t && (b && c)) e

all_three : (a b c : Bool) → a ≡ true → b ≡ true → c ≡ true → (a && (b && c)) ≡ true
all_three a b c first second third = ap (λ t. t && (b && c)) first ∙ ap (λ t. t && c) second ∙ third

-- the rest of a line, as a range tells it
pub rest_of : (line : List ℕ) → take (length line - 34) (drop 34 line) ≡ drop 34 line
rest_of line = ap (λ n. take n (drop 34 line)) (sym (length-drop 34 line)) ∙ take-length (drop 34 line)

pub other_blanks : (line : List ℕ) → bytes_eq (take 2 (drop 32 line)) (codes "  ") ≡ false → is_sum line ≡ false
other_blanks line e = none_second (is_digest_text (take 32 line)) (bytes_eq (take 2 (drop 32 line)) (codes "  ")) (is_utf8 (drop 34 line)) e

pub short_line : (line : List ℕ) → length line < 34 → is_sum line ≡ false
short_line line short = other_blanks line (false_from_ne_true (bytes_eq (take 2 (drop 32 line)) (codes "  ")) (λ same.
    let two : length (take 2 (drop 32 line)) ≡ 2 = ap length ((bytes_eq-Decides (take 2 (drop 32 line)) (codes "  ")).0 same) in
    let cut = length-take 2 (drop 32 line) in
    let left = length-drop 32 line in
    absurd (omega (arith, short, two, cut, left))))

pub no_digits : (line : List ℕ) → is_digest_text (take 32 line) ≡ false → is_sum line ≡ false
no_digits line e = none_first (is_digest_text (take 32 line)) (bytes_eq (take 2 (drop 32 line)) (codes "  ")) (is_utf8 (drop 34 line)) e

pub no_text : (line : List ℕ) → (IsUtf8 (take (length line - 34) (drop 34 line)) → ⊥) → is_sum line ≡ false
no_text line bad =
    none_third (is_digest_text (take 32 line)) (bytes_eq (take 2 (drop 32 line)) (codes "  ")) (is_utf8 (drop 34 line))
    (false_from_ne_true (is_utf8 (drop 34 line)) (λ e. bad (subst IsUtf8 (sym (rest_of line)) (IsUtf8-from_is_utf8 (drop 34 line) e))))

pub whole_sum : (line : List ℕ) → is_digest_text (take 32 line) ≡ true → bytes_eq (take 2 (drop 32 line)) (codes "  ") ≡ true → IsUtf8 (take (length line - 34) (drop 34 line)) → is_sum line ≡ true
whole_sum line digits blanks text =
    all_three (is_digest_text (take 32 line)) (bytes_eq (take 2 (drop 32 line)) (codes "  ")) (is_utf8 (drop 34 line)) digits blanks (is_utf8-from_IsUtf8 (drop 34 line) (subst IsUtf8 (rest_of line) text))
