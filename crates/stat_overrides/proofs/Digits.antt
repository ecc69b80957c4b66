-- Digit after digit.
use Rattle.std.proofs.Common.{◌≡◌, ◌≤◌, ◌+◌, ◌<◌, ℕ, List, [], ◌∷◌, length, drop, get_or, Option, Some, None, refl, sym, ap, ◌∙◌, arith}
use Rattle.std.specs.Prelude.{option_and_then}
use Rattle.std.proofs.lemmas.List.{drop_more, get_or_default, drop_all}
use Rattle.stat_overrides.specs.Words.{number_from, number_of, number_with}

-- what is left begins with this digit
left_more : (base limit value : ℕ) (digits : List ℕ) (i digit d : ℕ) → i < length digits → digit ≡ get_or digits i d
    → number_from base limit value (drop i digits) ≡ option_and_then (λ next. number_from base limit next (drop (i + 1) digits)) (number_with base limit value digit)
left_more base limit value digits i digit d lt is =
    ap (number_from base limit value) (drop_more digits i d lt) ∙ ap (λ (x : ℕ). number_from base limit value (x ∷ drop (i + 1) digits)) (sym is)

pub digit_more : (base limit value : ℕ) (digits : List ℕ) (i digit d next : ℕ) (o : Option ℕ) → i < length digits → digit ≡ get_or digits i d → o ≡ number_with base limit value digit → Some next ≡ o
    → number_from base limit value (drop i digits) ≡ number_from base limit 0 digits → number_from base limit next (drop (i + 1) digits) ≡ number_from base limit 0 digits
digit_more base limit value digits i digit d next o lt is found some so_far =
    ap (option_and_then (λ (n : ℕ). number_from base limit n (drop (i + 1) digits))) (some ∙ found) ∙ sym (left_more base limit value digits i digit d lt is) ∙ so_far

whole : (base limit : ℕ) (digits : List ℕ) → 0 < length digits → number_from base limit 0 digits ≡ number_of base limit digits
whole base limit [] some = absurd (omega (arith, some))
whole base limit (x ∷ digits) some = refl

pub no_digit : (base limit value : ℕ) (digits : List ℕ) (i digit d : ℕ) (o : Option ℕ) → i < length digits → digit ≡ get_or digits i d → o ≡ number_with base limit value digit → None ≡ o
    → number_from base limit value (drop i digits) ≡ number_from base limit 0 digits → None ≡ number_of base limit digits
no_digit base limit value digits i digit d o lt is found none so_far =
    ap (option_and_then (λ (n : ℕ). number_from base limit n (drop (i + 1) digits))) (none ∙ found) ∙ sym (left_more base limit value digits i digit d lt is) ∙ so_far ∙ whole base limit digits (omega (arith, lt))

pub all_digits : (base limit value : ℕ) (digits : List ℕ) (i : ℕ) → 0 < length digits → length digits ≤ i → number_from base limit value (drop i digits) ≡ number_from base limit 0 digits → Some value ≡ number_of base limit digits
all_digits base limit value digits i some end so_far =
    ap (number_from base limit value) (sym (drop_all i digits end)) ∙ so_far ∙ whole base limit digits some
