-- The seconds that a text of digits writes, by what the library reads of it.
use Rattle.std.proofs.Common.{arith, ◌≡◌, ◌∙◌, ◌<◌, ◌&&◌, ◌^◌, Bool, true, false, ℕ, List, [], ◌∷◌, length, Option, Some, None, Result, Ok, Err, ap, if◌then◌else◌, nat_lt, refl, sym}
use Rattle.std.specs.Char.{is_ascii_digit}
use Rattle.std.specs.List.{list_all}
use Rattle.std.specs.Prelude.{OkIff}
use Rattle.std.specs.Result.{result_ok}
use Rattle.std.specs.Str.{all_ascii_digits}
use Rattle.std.specs.Str.Parse.{ParsesUnsigned, digits_value}
use Rattle.std.proofs.lemmas.Str.Parse.{numerals_by_value, parse_digits, tells_all_ascii_digits}
use Rattle.command_words.specs.Waits.{number_in}

same_digits : (ds : List ℕ) → all_ascii_digits ds ≡ list_all is_ascii_digit ds
same_digits [] = refl
same_digits (c ∷ cs) = ap (λ b. is_ascii_digit c && b) (same_digits cs)

fits : (n : ℕ) → n < 2 ^ 32 → nat_lt n (2 ^ 32) ≡ true
fits n h = grind arith

fits_not : (n : ℕ) → (n < 2 ^ 32 → ⊥) → nat_lt n (2 ^ 32) ≡ false
fits_not n h = grind arith

taken : (digits small : Bool) (n : ℕ) → digits ≡ true → small ≡ true → (if digits && small then Some n else None) ≡ Some n
taken digits small n e f = rw (e, f) refl

left_out : (digits small : Bool) (n : ℕ) → digits ≡ true → small ≡ false → (if digits && small then Some n else None) ≡ None
left_out digits small n e f = rw (e, f) refl

seconds_of : {E : Type 0} (text : List ℕ) (r : Result ℕ E) → OkIff r ((0 < length text) × (digits_value 10 text < 2 ^ 32)) (digits_value 10 text)
    → list_all is_ascii_digit text ≡ true → result_ok r ≡ number_in text
seconds_of [] (Ok n) read digits = absurd (omega (arith, read.0.0))
seconds_of [] (Err e) read digits = refl
seconds_of (c ∷ cs) (Ok n) read digits = ap Some read.1 ∙ sym (taken _ _ _ digits (fits _ read.0.1))
seconds_of (c ∷ cs) (Err e) read digits = sym (left_out _ _ (digits_value 10 (c ∷ cs)) digits (fits_not _ (λ h. read (omega arith, h))))

-- what is read of digits, as a number of 32 bits
pub seconds_read : {E : Type 0} (text : List ℕ) (r : Result ℕ E) → ParsesUnsigned 32 10 text r → list_all is_ascii_digit text ≡ true → result_ok r ≡ number_in text
seconds_read text r read digits = seconds_of text r (parse_digits (numerals_by_value _ tells_all_ascii_digits) 32 text r read (same_digits text ∙ digits)) digits

-- and where there is another byte
not_taken : (digits small : Bool) (n : ℕ) → digits ≡ false → (if digits && small then Some n else None) ≡ None
not_taken digits small n e = rw e refl

pub none_read : (text : List ℕ) → list_all is_ascii_digit text ≡ false → number_in text ≡ None
none_read [] digits = refl
none_read (c ∷ cs) digits = not_taken _ _ (digits_value 10 (c ∷ cs)) digits
