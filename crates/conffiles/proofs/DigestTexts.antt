-- Texts of digests: 32 digits in lower case, which stand for 16 bytes.
use Rattle.std.proofs.Common.{◌≡◌, ℕ, zero, suc, ◌+◌, ◌-◌, ◌*◌, ◌/◌, ◌%◌, ◌<◌, ◌≤◌, ◌==◌, ◌&&◌, Bool, true, false, List, [], ◌∷◌, length, slice_index, Some, Ok, refl, sym, ap, ◌∙◌, arith, inl, inr}
use Rattle.std.specs.Prelude.{nat_le, nat_lt, if◌then◌else◌}
use Rattle.std.specs.List.{list_all}
use Rattle.std.proofs.lemmas.Bool.{and_parts, or_cases, leb-true, eqb-true}
use Rattle.std.proofs.lemmas.List.Sums.{AllPass-from_list_all}
use Rattle.hex.specs.Hex.{IsBytes, decode_of, decode_sized, encode_lower, encode_with, hex_digit_value, lower_digits}
use Rattle.hex.proofs.HexLemmas.{IsDigits-lower_digits, decode_of-encode_lower, decode_of-same, decode_sized-ok, decode_sized-twice, decode_sized-encode_lower}
use Rattle.conffiles.specs.Digests.{IsDigest, is_lower_digit, is_digest_text}

-- one digit

abbrev code_of : ℕ → ℕ
code_of v = if nat_lt v 10 then v + 48 else v + 87

record HasValue (c : ℕ) : Type 0 where
  value : ℕ
  small : value < 16
  is : hex_digit_value c ≡ Some value
  code : c ≡ code_of value

lower_value : (c : ℕ) → is_lower_digit c ≡ true → HasValue c
lower_value c is = elim (or_cases (nat_le 48 c && nat_le c 57) (nat_le 97 c && nat_le c 102) is) [
  | inl d ↦
      let parts = and_parts (nat_le 48 c) (nat_le c 57) d in
      let low : 48 ≤ c = leb-true 48 c parts.0 in
      let high : c ≤ 57 = leb-true c 57 parts.1 in
      record { value = c - 48; small = omega arith; is = grind arith; code = grind arith }
  | inr l ↦
      let parts = and_parts (nat_le 97 c) (nat_le c 102) l in
      let low : 97 ≤ c = leb-true 97 c parts.0 in
      let high : c ≤ 102 = leb-true c 102 parts.1 in
      record { value = c - 87; small = omega arith; is = grind arith; code = grind arith }
]

some_same : (a b : ℕ) → Some a ≡ Some b → a ≡ b
some_same a b is = cc

same_digit : (c d : ℕ) → is_lower_digit c ≡ true → is_lower_digit d ≡ true → hex_digit_value c ≡ hex_digit_value d → c ≡ d
same_digit c d first second same =
    let v = lower_value c first in
    let w = lower_value d second in
    let value : v.value ≡ w.value = some_same v.value w.value (sym v.is ∙ same ∙ w.is) in
    v.code ∙ ap code_of value ∙ sym w.code

digit_lower : (v : ℕ) → v < 16 → is_lower_digit (slice_index lower_digits v) ≡ true
digit_lower v less = AllPass-from_list_all is_lower_digit lower_digits refl v 0 less

value_digit : (c : ℕ) → is_lower_digit c ≡ true → (v : HasValue c) → slice_index lower_digits v.value ≡ c
value_digit c is v = same_digit (slice_index lower_digits v.value) c (digit_lower v.value v.small) is (IsDigits-lower_digits v.value v.small ∙ sym v.is)

-- the bytes of a text

record HasBytes (s : List ℕ) : Type 0 where
  found : List ℕ
  are : IsBytes found
  is : encode_lower found ≡ s

one_byte : (b : ℕ) (rest : List ℕ) → b < 256 → IsBytes rest → IsBytes (b ∷ rest)
one_byte b rest less all zero = less
one_byte b rest less all (suc i) = all i

bytes_of : (s : List ℕ) → length s % 2 ≡ 0 → list_all is_lower_digit s ≡ true → HasBytes s
unfolding encode_with
bytes_of [] even all = record { found = []; are = λ i. omega arith; is = refl }
bytes_of (a ∷ []) even all = absurd (omega arith)
bytes_of (a ∷ b ∷ rest) even all =
    let first = and_parts (is_lower_digit a) (is_lower_digit b && list_all is_lower_digit rest) all in
    let second = and_parts (is_lower_digit b) (list_all is_lower_digit rest) first.1 in
    let high = lower_value a first.0 in
    let low = lower_value b second.0 in
    let more = bytes_of rest (omega arith) second.1 in
    let less_high = high.small in
    let less_low = low.small in
    let byte : ℕ = high.value * 16 + low.value in
    let top : byte / 16 ≡ high.value = omega arith in
    let rem : byte % 16 ≡ low.value = omega arith in
    record {
      found = byte ∷ more.found;
      are = one_byte byte more.found (omega arith) more.are;
      is = λ i. (ap (slice_index lower_digits) top ∙ value_digit a first.0 high) i ∷ (ap (slice_index lower_digits) rem ∙ value_digit b second.0 low) i ∷ more.is i;
    }

-- each digit of a written text is in lower case
pub written_lower : (d : List ℕ) → IsBytes d → list_all is_lower_digit (encode_lower d) ≡ true
unfolding encode_with
written_lower [] are = refl
written_lower (b ∷ rest) are =
    let small : b < 256 = are 0 in
    both _ _ (digit_lower (b / 16) (omega arith)) (both _ _ (digit_lower (b % 16) (omega arith)) (written_lower rest (λ i. are (suc i))))
  where
    both : (x y : Bool) → x ≡ true → y ≡ true → x && y ≡ true
    both true y h k = k
    both false y h k = h

-- what a text of digits in lower case was read as is what it is the text of
pub read_back : (s d : List ℕ) → list_all is_lower_digit s ≡ true → decode_sized s 16 ≡ Ok d → encode_lower d ≡ s
read_back s d all read =
    let long = decode_sized-ok s 16 d read in
    let bytes = bytes_of s (omega arith) all in
    let same : decode_of s ≡ Ok bytes.found = ap decode_of (sym bytes.is) ∙ decode_of-encode_lower bytes.found bytes.are in
    ap encode_lower (decode_of-same s d bytes.found (sym (decode_sized-twice s 16 long) ∙ read) same) ∙ bytes.is

pub read_long : (s d : List ℕ) → list_all is_lower_digit s ≡ true → decode_sized s 16 ≡ Ok d → is_digest_text s ≡ true
read_long s d all read =
    let long : length s ≡ 32 = decode_sized-ok s 16 d read in
    grind arith

pub read_all : (s : List ℕ) → is_digest_text s ≡ true → (d : List ℕ) × (decode_sized s 16 ≡ Ok d)
read_all s is =
    let parts = and_parts (length s == 32) (list_all is_lower_digit s) is in
    let long : length s ≡ 32 = eqb-true (length s) 32 parts.0 in
    let bytes = bytes_of s (omega arith) parts.1 in
    (bytes.found, decode_sized-twice s 16 (omega arith) ∙ ap decode_of (sym bytes.is) ∙ decode_of-encode_lower bytes.found bytes.are)

pub read_written : (s d : List ℕ) → IsDigest d → s ≡ encode_lower d → decode_sized s 16 ≡ Ok d
read_written s d is same = ap (λ t. decode_sized t 16) same ∙ decode_sized-encode_lower d 16 is.long is.bytes
