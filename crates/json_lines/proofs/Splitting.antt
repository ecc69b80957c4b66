-- Texts are cut where the library cuts them.
use Rattle.std.proofs.Common.{arith, ◌≡◌, ◌≢◌, ◌<◌, ◌∙◌, ◌++◌, ◌∷◌, [], ℕ, suc, Bool, true, false, List, Option, Some, None, length, get_or, ap, if◌then◌else◌, nat_eq, refl, sym}
use Rattle.std.specs.Prelude.{MatchOption, option_map}
use Rattle.std.proofs.lemmas.Str.Pattern.{IsSplitOnceResult, split_parts}
use denote.Ref.{Bor}
use Rattle.json_lines.specs.Cutting.{cut_at}

further : {P : Type 0} (b : Bool) (p q : P) → b ≡ false → (if b then p else q) ≡ q
further b p q e = rw e refl

taken : {P : Type 0} (b : Bool) (p q : P) → b ≡ true → (if b then p else q) ≡ p
taken b p q e = rw e refl

other : (c mark : ℕ) → c ≢ mark → nat_eq c mark ≡ false
other c mark h = grind arith

same : (c : ℕ) → nat_eq c c ≡ true
same c = grind arith

cut_found : (mark : ℕ) (front rest : List ℕ) → ((i : ℕ) → i < length front → get_or front i 0 ≢ mark) → cut_at mark (front ++ mark ∷ rest) ≡ Some (front, rest)
cut_found mark [] rest away = taken (nat_eq mark mark) _ _ (same mark)
cut_found mark (c ∷ cs) rest away =
    further (nat_eq c mark) _ _ (other c mark (away 0 (omega arith)))
    ∙ ap (option_map (λ (parts : List ℕ × List ℕ). (c ∷ parts.0, parts.1))) (cut_found mark cs rest (λ i lt e. away (suc i) (omega (arith, lt)) e))

cut_none : (mark : ℕ) (text : List ℕ) → ((i : ℕ) → i < length text → get_or text i 0 ≢ mark) → cut_at mark text ≡ None
cut_none mark [] away = refl
cut_none mark (c ∷ cs) away =
    further (nat_eq c mark) _ _ (other c mark (away 0 (omega arith)))
    ∙ ap (option_map (λ (parts : List ℕ × List ℕ). (c ∷ parts.0, parts.1))) (cut_none mark cs (λ i lt e. away (suc i) (omega (arith, lt)) e))

-- a text is cut where the library splits it
pub cut_parts : (mark : ℕ) (text : List ℕ) (r : Option (Bor (List ℕ) × Bor (List ℕ))) → mark < 128 → IsSplitOnceResult mark text r → option_map (λ parts. (parts.0.now, parts.1.now)) r ≡ cut_at mark text
cut_parts mark text r low is = at r (split_parts mark text r is low)
  where
    at : (r : Option (Bor (List ℕ) × Bor (List ℕ))) → MatchOption r ((i : ℕ) → i < length text → get_or text i 0 ≢ mark) (λ x. (text ≡ x.0.now ++ mark ∷ x.1.now) × ((i : ℕ) → i < length x.0.now → get_or x.0.now i 0 ≢ mark))
        → option_map (λ parts. (parts.0.now, parts.1.now)) r ≡ cut_at mark text
    at None away = sym (cut_none mark text away)
    at (Some x) parts = sym (cut_found mark x.0.now x.1.now parts.1) ∙ ap (cut_at mark) (sym parts.0)
