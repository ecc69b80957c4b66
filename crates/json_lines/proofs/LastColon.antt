-- Texts are cut at the last colon where the library cuts them.
use Rattle.std.proofs.Common.{arith, ◌≡◌, ◌≢◌, ◌<◌, ◌≤◌, ◌+◌, ◌∙◌, ◌++◌, ◌∷◌, [], ℕ, suc, Bool, false, List, Option, Some, None, length, drop, take, get_or, ap, if◌then◌else◌, nat_eq, refl, sym, subst}
use Rattle.std.specs.Prelude.{MatchOption, option_map}
use Rattle.std.specs.Option.{option_or}
use Rattle.std.specs.Str.Pattern.{RFindsChar}
use Rattle.std.specs.Str.{NoCharPasses}
use Rattle.std.proofs.lemmas.List.{take-append-drop}
use Rattle.std.proofs.lemmas.Str.Pattern.{NoCharPasses-char, drop_at_char}
use denote.Ref.{Bor}
use Rattle.json_lines.specs.Cutting.{cut_at_last_colon}

further : {P : Type 0} (b : Bool) (p q : P) → b ≡ false → (if b then p else q) ≡ q
further b p q e = rw e refl

other : (c : ℕ) → c ≢ 58 → nat_eq c 58 ≡ false
other c h = grind arith

-- what is cut behind a byte is cut with it in front
abbrev before : ℕ → Option (List ℕ × List ℕ) → Option (List ℕ × List ℕ)
before c cut = option_map (λ (parts : List ℕ × List ℕ). (c ∷ parts.0, parts.1)) cut

last_none : (text : List ℕ) → ((i : ℕ) → i < length text → get_or text i 0 ≢ 58) → cut_at_last_colon text ≡ None
last_none [] away = refl
last_none (c ∷ cs) away =
    ap (λ cut. option_or (before c cut) (if nat_eq c 58 then Some ([], cs) else None)) (last_none cs (λ i lt e. away (suc i) (omega (arith, lt)) e))
    ∙ further (nat_eq c 58) _ _ (other c (away 0 (omega arith)))

last_found : (front rest : List ℕ) → ((i : ℕ) → i < length rest → get_or rest i 0 ≢ 58) → cut_at_last_colon (front ++ 58 ∷ rest) ≡ Some (front, rest)
last_found [] rest away = ap (λ cut. option_or (before 58 cut) (Some ([], rest))) (last_none rest away)
last_found (c ∷ cs) rest away =
    ap (λ cut. option_or (before c cut) (if nat_eq c 58 then Some ([], cs ++ 58 ∷ rest) else None)) (last_found cs rest away)

-- a text is cut where the library splits it from its end
pub last_parts : (text : List ℕ) (r : Option (Bor (List ℕ) × Bor (List ℕ)))
    → MatchOption r (RFindsChar 58 text None) (λ x. (i : ℕ) × (j : ℕ) × RFindsChar 58 text (Some (i, j)) × (x.0.now ≡ take i text) × (x.1.now ≡ drop j text) × (i ≤ j) × (length x.0.now ≡ i) × (length x.1.now + j ≡ length text))
    → option_map (λ parts. (parts.0.now, parts.1.now)) r ≡ cut_at_last_colon text
last_parts text None away = sym (last_none text (λ i lt e. NoCharPasses-char 58 text i away (omega arith) lt e))
last_parts text (Some x) h =
    let free = λ (i : ℕ) (lt : i < length x.1.now). NoCharPasses-char 58 x.1.now i (subst (NoCharPasses (λ d. nat_eq d 58)) (sym h.4) h.2.0) (omega arith) lt in
    let whole : text ≡ x.0.now ++ 58 ∷ x.1.now = sym (take-append-drop h.0 text) ∙ (λ k. sym h.3 k ++ (drop_at_char 58 text h.0 h.1 h.2.1 (omega arith) ∙ ap (λ l. 58 ∷ l) (sym h.4)) k) in
    sym (last_found x.0.now x.1.now free) ∙ ap cut_at_last_colon (sym whole)
