-- Names of triggers are printed signs, which are ASCII, so that they can be read as text.
use Rattle.std.proofs.Common.{◌≡◌, ◌&&◌, ℕ, ◌<◌, true, List, Result, Ok, Err, MatchResult, arith, rules, sym, subst}
use Rattle.std.specs.Prelude.{IsOk}
use Rattle.std.specs.List.{list_all}
use Rattle.std.specs.Str.{IsUtf8, bytes_eq}
use Rattle.std.proofs.lemmas.Bool.{and_parts}
use Rattle.std.proofs.lemmas.Bool.Decides.{nat_tests}
use Rattle.std.proofs.lemmas.List.Sums.{AllPass-from_list_all}
use Rattle.std.proofs.lemmas.Str.{IsUtf8-from_ascii}
use Rattle.std.proofs.lemmas.Str.Ascii.{IsAscii-from_all}
use Rattle.control_fields.specs.Names.{trim_end}
use Rattle.status_records.specs.TriggerNames.{are_trigger_names, is_printed_sign, starts_with_sign}

sign_ascii : (b : ℕ) → is_printed_sign b ≡ true → b < 128
sign_ascii b h = grind (arith, nat_tests)

names_utf8 : (names : List ℕ) → are_trigger_names names ≡ true → IsUtf8 names
names_utf8 names h =
    let printed = (and_parts (list_all is_printed_sign names) (starts_with_sign names && bytes_eq (trim_end names) names) h).0 in
    IsUtf8-from_ascii names (IsAscii-from_all names (λ i d l. sign_ascii _ (AllPass-from_list_all is_printed_sign names printed i d l)))

-- what is refused only where a text isn't UTF-8 is not refused for them
pub names_read : {T E : Type 0} (P : T → Type 0) (Q : E → Type 0) (names text : List ℕ) (r : Result T E) → text ≡ names → MatchResult r P (λ e. (IsUtf8 text → ⊥) × Q e) → are_trigger_names names ≡ true → IsOk r
names_read P Q names text (Ok x) same h are = search rules
names_read P Q names text (Err e) same h are = absurd (h.0 (subst IsUtf8 (sym same) (names_utf8 names are)))
