-- Where a text is cut.
use Rattle.std.proofs.Common.{◌≡◌, ◌+◌, ◌-◌, ◌<◌, ℕ, zero, suc, Bool, true, false, cond, if◌then◌else◌, List, [], ◌∷◌, ◌++◌, length, take, drop, get_or, Option, Some, None, nat_eq, refl, sym, ap, ◌∙◌, arith}
use Rattle.std.specs.Prelude.{option_map}
use Rattle.std.proofs.lemmas.Bool.{ne_eqb}
use Rattle.std.proofs.lemmas.List.{take_all, drop_more, get_or-take, take-append-drop}
use Rattle.stat_overrides.specs.Words.{cut_at}

-- no byte of it is this one
abbrev Lacks : ℕ → List ℕ → Type 0
Lacks sign text = (k : ℕ) → k < length text → get_or text k 0 ≡ sign → ⊥

later : (sign x : ℕ) (xs : List ℕ) → Lacks sign (x ∷ xs) → Lacks sign xs
later sign x xs h = λ k lt e. h (suc k) (omega (arith, lt)) e

chosen : {P : Type 0} (b : Bool) (p q : P) → b ≡ true → (if b then p else q) ≡ p
chosen b p q e = rw e refl

passed : {P : Type 0} (b : Bool) (p q : P) → b ≡ false → (if b then p else q) ≡ q
passed b p q e = rw e refl

same_sign : (sign : ℕ) → nat_eq sign sign ≡ true
same_sign sign = grind arith

cut_there : (sign : ℕ) (front back : List ℕ) → Lacks sign front → cut_at sign (front ++ sign ∷ back) ≡ Some (front, back)
cut_there sign [] back h = chosen (nat_eq sign sign) _ _ (same_sign sign)
cut_there sign (x ∷ front) back h =
    passed (nat_eq x sign) _ _ (ne_eqb x sign (h 0 (omega arith)))
    ∙ ap (option_map (λ (parts : List ℕ × List ℕ). (x ∷ parts.0, parts.1))) (cut_there sign front back (later sign x front h))

pub cut_nowhere : (sign : ℕ) (text : List ℕ) → Lacks sign text → cut_at sign text ≡ None
cut_nowhere sign [] h = refl
cut_nowhere sign (x ∷ text) h =
    passed (nat_eq x sign) _ _ (ne_eqb x sign (h 0 (omega arith)))
    ∙ ap (option_map (λ (parts : List ℕ × List ℕ). (x ∷ parts.0, parts.1))) (cut_nowhere sign text (later sign x text h))

-- at the first such byte
pub cut_here : (sign : ℕ) (text front back : List ℕ) (i : ℕ) → i < length text → front ≡ take i text → length front ≡ i → back ≡ drop i text → get_or text i 0 ≡ sign → ((k : ℕ) → k < i → get_or text k 0 ≡ sign → ⊥)
    → Some (front, take (length back - 1) (drop 1 back)) ≡ cut_at sign text
cut_here sign text front back i lt is size rear here before =
    let after = drop (i + 1) text in
    let back_is : back ≡ sign ∷ after = rear ∙ drop_more text i 0 lt ∙ ap (λ (x : ℕ). x ∷ after) here in
    let text_is : text ≡ front ++ sign ∷ after = sym (take-append-drop i text) ∙ ap (λ (l : List ℕ). take i text ++ l) (sym rear ∙ back_is) ∙ ap (λ (l : List ℕ). l ++ sign ∷ after) (sym is) in
    let lacks : Lacks sign front = λ k small e. before k (omega (arith, small, size)) (sym (get_or-take i text k 0 (omega (arith, small, size))) ∙ ap (λ (l : List ℕ). get_or l k 0) (sym is) ∙ e) in
    let left : take (length back - 1) (drop 1 back) ≡ after = ap (λ (l : List ℕ). take (length l - 1) (drop 1 l)) back_is ∙ take_all (length (sign ∷ after) - 1) after (omega arith) in
    ap (λ (l : List ℕ). Some (front, l)) left ∙ sym (ap (cut_at sign) text_is ∙ cut_there sign front after lacks)
