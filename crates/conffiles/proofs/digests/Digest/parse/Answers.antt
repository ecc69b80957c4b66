use Rattle.std.proofs.Common.{◌≡◌, ℕ, List, Some, Result, Ok, Err, ap, sym, ◌∙◌, false, true, rules}
use Rattle.std.specs.List.{list_all}
use Rattle.std.proofs.lemmas.Bool.{true≢false, false_from_ne_true}
use Rattle.hex.specs.declared.error.FromHexError.{FromHexError}
use Rattle.conffiles.specs.Digests.{is_lower_digit}
use Rattle.conffiles.proofs.DigestTexts.{written_lower, read_back, read_long, read_all, read_written}
use Rattle.conffiles.proofs.digests.Digest.parse.Goals as goal

same_bytes : (a b : List ℕ) (r : Result (List ℕ) FromHexError) → r ≡ Ok a → r ≡ Ok b → a ≡ b
same_bytes a b r first second = cc

no_fault : (a : List ℕ) (e : FromHexError) (r : Result (List ℕ) FromHexError) → r ≡ Ok a → r ≡ Err e → ⊥
no_fault a e r first second = absurd cc

pub returns-in-Ok-clause-exact : goal.returns-in-Ok-clause-exact
returns-in-Ok-clause-exact c =
    let lower : list_all is_lower_digit c.args.text.now ≡ true = search rules in
    sym (read_long c.args.text.now c.in-Ok.bytes lower (sym c.in-Ok.ensures))

pub returns-in-Ok-clause-value : goal.returns-in-Ok-clause-value
returns-in-Ok-clause-value c =
    let lower : list_all is_lower_digit c.args.text.now ≡ true = search rules in
    read_back c.args.text.now c.in-Ok.bytes lower (sym c.in-Ok.ensures)

pub returns-in-Ok-clause-back : goal.returns-in-Ok-clause-back
returns-in-Ok-clause-back c = λ d is same. ap (λ (b : List ℕ). Some b) (same_bytes _ d _ (sym c.in-Ok.ensures) (read_written c.args.text.now d is same))

pub returns-in-Err-clause-exact : goal.returns-in-Err-clause-exact
returns-in-Err-clause-exact c = sym (false_from_ne_true _ (λ is.
    let found = read_all c.args.text.now is in
    no_fault found.0 _ _ found.1 (sym c.in-Err.ensures)))

pub returns-in-Err-clause-back : goal.returns-in-Err-clause-back
returns-in-Err-clause-back c = λ d is same. absurd (no_fault d _ _ (read_written c.args.text.now d is same) (sym c.in-Err.ensures))

pub returns-then-not-are_lower_digits-clause-back : goal.returns-then-not-are_lower_digits-clause-back
returns-then-not-are_lower_digits-clause-back c = λ d is same.
    let upper : list_all is_lower_digit c.args.text.now ≡ false = search rules in
    absurd (true≢false (sym (ap (list_all is_lower_digit) same ∙ written_lower d is.bytes) ∙ upper))
