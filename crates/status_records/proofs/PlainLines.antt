-- Lines of printed signs, with no blank at either end.
use Rattle.std.proofs.Common.{◌≡◌, ◌≢◌, ◌<◌, ℕ, Bool, true, false, cond, List, [], ◌∷◌, ◌++◌, length, refl, sym, ap, ◌∙◌, arith}
use Rattle.std.specs.List.{list_all}
use Rattle.std.specs.Prelude.{nat_eq, nat_lt}
use Rattle.std.specs.Str.{IsUtf8, IsAscii}
use Rattle.std.proofs.lemmas.Bool.{and_parts, ltb-true, ne_eqb, or_from}
use Rattle.std.proofs.lemmas.Str.{IsUtf8-from_ascii}
use Rattle.std.proofs.lemmas.Str.Ascii.{IsAscii-nil, IsAscii-cons}
use Rattle.control_fields.specs.Names.{Lacks, is_blank, keep_before, trim_end, trim_start}
use Rattle.control_fields.proofs.Trims.{lacks_cons}
use Rattle.relation_fields.specs.OneLine.{is_printed}

printed_over : (b : ℕ) → is_printed b ≡ true → 31 < b
printed_over b p = ltb-true 31 b (and_parts (nat_lt 31 b) (nat_lt b 127) p).0

printed_under : (b : ℕ) → is_printed b ≡ true → b < 127
printed_under b p = ltb-true b 127 (and_parts (nat_lt 31 b) (nat_lt b 127) p).1

no_blank : (b : ℕ) → is_printed b ≡ true → b ≢ 32 → is_blank b ≡ false
no_blank b p ne = or_from (nat_eq b 32) (nat_eq b 9) (ne_eqb b 32 ne) (ne_eqb b 9 (λ e. let over = printed_over b p in omega arith))

plain_ascii : (text : List ℕ) → list_all is_printed text ≡ true → IsAscii text
plain_ascii [] all = IsAscii-nil
plain_ascii (b ∷ bs) all =
    let parts = and_parts (is_printed b) (list_all is_printed bs) all in
    IsAscii-cons b bs (let under = printed_under b parts.0 in omega arith) (plain_ascii bs parts.1)

pub plain_utf8 : (text : List ℕ) → list_all is_printed text ≡ true → IsUtf8 text
plain_utf8 text all = IsUtf8-from_ascii text (plain_ascii text all)

pub plain_lacks : (text : List ℕ) → list_all is_printed text ≡ true → Lacks text 10
plain_lacks [] all = λ i lt e. omega (arith, lt)
plain_lacks (b ∷ bs) all =
    let parts = and_parts (is_printed b) (list_all is_printed bs) all in
    lacks_cons b bs 10 (λ e. let over = printed_over b parts.0 in omega arith) (plain_lacks bs parts.1)

pub plain_start : (text : List ℕ) → list_all is_printed text ≡ true → ((rest : List ℕ) → text ≢ 32 ∷ rest) → trim_start text ≡ text
plain_start [] all front = refl
plain_start (b ∷ bs) all front =
    ap (λ x. cond x (trim_start bs) (b ∷ bs)) (no_blank b (and_parts (is_printed b) (list_all is_printed bs) all).0 (λ e. front bs (ap (λ x. x ∷ bs) e)))

kept_before : (b : ℕ) (bs : List ℕ) → is_printed b ≡ true → ((front : List ℕ) → b ∷ bs ≢ front ++ 32 ∷ []) → keep_before b bs ≡ b ∷ bs
kept_before b [] p end = ap (λ x. cond x [] (b ∷ [])) (no_blank b p (λ e. end [] (ap (λ x. x ∷ []) e)))
kept_before b (c ∷ cs) p end = refl

pub plain_end : (text : List ℕ) → list_all is_printed text ≡ true → ((front : List ℕ) → text ≢ front ++ 32 ∷ []) → trim_end text ≡ text
plain_end [] all end = refl
plain_end (b ∷ bs) all end =
    let parts = and_parts (is_printed b) (list_all is_printed bs) all in
    ap (keep_before b) (plain_end bs parts.1 (λ front e. end (b ∷ front) (ap (λ (l : List ℕ). b ∷ l) e))) ∙ kept_before b bs parts.0 end
