-- The calls that texts name.
use Rattle.std.proofs.Common.{arith, ◌≡◌, ◌≢◌, ◌<◌, ◌∙◌, ◌++◌, ◌∷◌, ◌&&◌, [], ℕ, zero, suc, Bool, true, false, List, Option, Some, None, length, get_or, ap, map, if◌then◌else◌, nat_eq, refl, sym, subst}
use Rattle.std.specs.List.{list_all}
use Rattle.std.specs.Prelude.{MatchOption, option_map}
use Rattle.std.proofs.lemmas.Str.Pattern.{IsSplitOnceResult, split_parts}
use Rattle.clap.specs.Words.{Text}
use denote.Ref.{Bor}
use Rattle.command_words.specs.Rehearsals.{cut_at_colon}

further : {P : Type 0} (b : Bool) (p q : P) → b ≡ false → (if b then p else q) ≡ q
further b p q e = rw e refl

other : (c : ℕ) → c ≢ 58 → nat_eq c 58 ≡ false
other c h = grind arith

cut_found : (front rest : Text) → ((i : ℕ) → i < length front → get_or front i 0 ≢ 58) → cut_at_colon (front ++ 58 ∷ rest) ≡ Some (front, rest)
cut_found [] rest away = refl
cut_found (c ∷ cs) rest away =
    further (nat_eq c 58) _ _ (other c (away 0 (omega arith)))
    ∙ ap (option_map (λ (parts : Text × Text). (c ∷ parts.0, parts.1))) (cut_found cs rest (λ i lt e. away (suc i) (omega (arith, lt)) e))

cut_none : (text : Text) → ((i : ℕ) → i < length text → get_or text i 0 ≢ 58) → cut_at_colon text ≡ None
cut_none [] away = refl
cut_none (c ∷ cs) away =
    further (nat_eq c 58) _ _ (other c (away 0 (omega arith)))
    ∙ ap (option_map (λ (parts : Text × Text). (c ∷ parts.0, parts.1))) (cut_none cs (λ i lt e. away (suc i) (omega (arith, lt)) e))

-- a text is cut where the library splits it
pub cut_parts : (text : Text) (r : Option (Bor Text × Bor Text)) → IsSplitOnceResult 58 text r → option_map (λ parts. (parts.0.now, parts.1.now)) r ≡ cut_at_colon text
cut_parts text r is = at r (split_parts 58 text r is (omega arith))
  where
    at : (r : Option (Bor Text × Bor Text)) → MatchOption r ((i : ℕ) → i < length text → get_or text i 0 ≢ 58) (λ x. (text ≡ x.0.now ++ 58 ∷ x.1.now) × ((i : ℕ) → i < length x.0.now → get_or x.0.now i 0 ≢ 58))
        → option_map (λ parts. (parts.0.now, parts.1.now)) r ≡ cut_at_colon text
    at None away = sym (cut_none text away)
    at (Some x) parts = sym (cut_found x.0.now x.1.now parts.1) ∙ ap cut_at_colon (sym parts.0)

-- where one of them fails, not all pass
pub fails_at : (p : Text → Bool) (texts : List (Bor Text)) (i : ℕ) (d : Bor Text) → i < length texts → p (get_or texts i d).now ≡ false → false ≡ list_all p (map (λ t. t.now) texts)
fails_at p [] i d within fails = absurd (omega arith)
fails_at p (x ∷ xs) zero d within fails = sym (ap (λ (b : Bool). b && list_all p (map (λ t. t.now) xs)) fails)
fails_at p (x ∷ xs) (suc i) d within fails = sym (ap (λ (b : Bool). p x.now && b) (sym (fails_at p xs i d (omega (arith, within)) fails)) ∙ none (p x.now))
  where
    none : (b : Bool) → (b && false) ≡ false
    none true = refl
    none false = refl
