-- Architectures are ASCII, so that one can be read as text.
use Rattle.std.proofs.Common.{◌≡◌, ℕ, ◌<◌, true, List, Result, Ok, Err, MatchResult, arith, rules}
use Rattle.std.specs.Prelude.{IsOk}
use Rattle.std.specs.List.{list_all}
use Rattle.std.specs.Str.{IsUtf8}
use Rattle.std.proofs.lemmas.Bool.Decides.{nat_tests}
use Rattle.std.proofs.lemmas.List.Sums.{AllPass-from_list_all}
use Rattle.std.proofs.lemmas.Str.{IsUtf8-from_ascii}
use Rattle.std.proofs.lemmas.Str.Ascii.{IsAscii-from_all}
use Rattle.relation_fields.specs.Architectures.{is_architecture_sign, is_architecture}
use Rattle.relation_fields.proofs.Suffixes.{architecture_signs}

sign_ascii : (b : ℕ) → is_architecture_sign b ≡ true → b < 128
sign_ascii b h = grind (arith, nat_tests)

architecture_utf8 : (word : List ℕ) → is_architecture word ≡ true → IsUtf8 word
architecture_utf8 word h = IsUtf8-from_ascii word (IsAscii-from_all word (λ i d l. sign_ascii _ (AllPass-from_list_all is_architecture_sign word (architecture_signs word h) i d l)))

-- what is refused only where a text isn't UTF-8 is not refused for an architecture
pub architecture_reads : {T E : Type 0} (P : T → Type 0) (Q : E → Type 0) (word : List ℕ) (r : Result T E) → MatchResult r P (λ e. (IsUtf8 word → ⊥) × Q e) → is_architecture word ≡ true → IsOk r
architecture_reads P Q word (Ok x) h named = search rules
architecture_reads P Q word (Err e) h named = absurd (h.0 (architecture_utf8 word named))
