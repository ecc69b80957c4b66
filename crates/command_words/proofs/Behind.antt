-- A front is taken off a text where the library strips it.
use Rattle.std.proofs.Common.{arith, ◌≡◌, ◌≢◌, ◌∙◌, ◌++◌, ◌∷◌, [], ℕ, Bool, true, false, Option, Some, None, drop, ap, if◌then◌else◌, nat_eq, refl, sym}
use Rattle.std.specs.Prelude.{MatchOption, option_map}
use Rattle.std.specs.Str.Pattern.{FindsTextPrefix, StripsPrefix}
use denote.Ref.{Bor}
use Rattle.clap.specs.Words.{Text}
use Rattle.command_words.specs.Frontends.{behind}

further : {P : Type 0} (b : Bool) (p q : P) → b ≡ false → (if b then p else q) ≡ q
further b p q e = rw e refl

taken : {P : Type 0} (b : Bool) (p q : P) → b ≡ true → (if b then p else q) ≡ p
taken b p q e = rw e refl

same : (c : ℕ) → nat_eq c c ≡ true
same c = grind arith

behind_found : (front rest : Text) → behind front (front ++ rest) ≡ Some rest
behind_found [] rest = refl
behind_found (c ∷ front) rest = taken (nat_eq c c) _ _ (same c) ∙ behind_found front rest

behind_none : (front text : Text) → ((rest : Text) → text ≢ front ++ rest) → behind front text ≡ None
behind_none [] text lacks = absurd (lacks text refl)
behind_none (c ∷ front) [] lacks = refl
behind_none (c ∷ front) (d ∷ text) lacks = by (nat_eq c d) refl (behind_none front text)
  where
    by : (b : Bool) → nat_eq c d ≡ b → (((rest : Text) → text ≢ front ++ rest) → behind front text ≡ None) → (if b then behind front text else None) ≡ None
    by false e further = refl
    by true e further =
        let is : d ≡ c = grind arith in
        further (λ rest h. lacks rest (ap (λ (l : Text). d ∷ l) h ∙ ap (λ (x : ℕ). x ∷ (front ++ rest)) is))

-- a front is taken off where the library strips it
pub behind_parts : (front text : Text) (r : Option (Bor Text)) → MatchOption r (FindsTextPrefix front text None) (λ x. StripsPrefix (FindsTextPrefix front) text x.now) → option_map (λ s. s.now) r ≡ behind front text
behind_parts front text None lacks = sym (behind_none front text lacks)
behind_parts front text (Some x) cut =
    ap Some (cut.2 ∙ ap (λ n. drop n text) refl) ∙ sym (behind_found front (drop cut.0 text)) ∙ ap (behind front) (sym cut.1.1)
