-- Names of triggers, whose signs are ASCII, so that a name can be read as text.
use Rattle.std.proofs.Common.{◌≡◌, ℕ, ◌<◌, true, List, Result, Ok, Err, MatchResult, arith, rules}
use Rattle.std.specs.Prelude.{IsOk}
use Rattle.std.specs.Str.{IsUtf8}
use Rattle.std.proofs.lemmas.Bool.Decides.{nat_tests}
use Rattle.std.proofs.lemmas.List.Sums.{AllPass-from_list_all}
use Rattle.std.proofs.lemmas.Str.{IsUtf8-from_ascii}
use Rattle.std.proofs.lemmas.Str.Ascii.{IsAscii-from_all}
use Rattle.trigger_interests.specs.Words.{is_trigger_name, is_trigger_sign}

sign_ascii : (b : ℕ) → is_trigger_sign b ≡ true → b < 128
sign_ascii b h = grind (arith, nat_tests)

name_utf8 : (name : List ℕ) → is_trigger_name name ≡ true → IsUtf8 name
name_utf8 name h = IsUtf8-from_ascii name (IsAscii-from_all name (λ i d l. sign_ascii _ (AllPass-from_list_all is_trigger_sign name h i d l)))

-- what is refused only where a text isn't UTF-8 is not refused for a name
pub name_reads : {T E : Type 0} (P : T → Type 0) (Q : E → Type 0) (name : List ℕ) (r : Result T E) → MatchResult r P (λ e. (IsUtf8 name → ⊥) × Q e) → is_trigger_name name ≡ true → IsOk r
name_reads P Q name (Ok x) h named = search rules
name_reads P Q name (Err e) h named = absurd (h.0 (name_utf8 name named))
