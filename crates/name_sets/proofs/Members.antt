-- Names in a set.
use Rattle.std.proofs.Common.{◌≡◌, ◌+◌, ◌<◌, ◌||◌, ℕ, Bool, true, false, cond, List, [], ◌∷◌, ◌++◌, take, length, get_or, refl, sym, ap, ◌∙◌}
use Rattle.std.specs.Str.{bytes_eq}
use Rattle.std.proofs.lemmas.Cmp.{nat_list_eq_equiv}
use Rattle.std.proofs.lemmas.List.Folds.{list_any_more, list_any-append}
use Rattle.name_sets.specs.Names.{is_among}

joined : (hit o : Bool) → cond hit true o ≡ (o || hit)
joined true true = refl
joined true false = refl
joined false true = refl
joined false false = refl

or_nothing : (o hit : Bool) → (o || hit) ≡ (o || (hit || false))
or_nothing true hit = refl
or_nothing false true = refl
or_nothing false false = refl

or_assoc : (a b c : Bool) → ((a || b) || c) ≡ (a || (b || c))
or_assoc true b c = refl
or_assoc false b c = refl

-- one name more, beside what was there
pub name_added : (names : List (List ℕ)) (i : ℕ) (name key q : List ℕ) (new mid old : Bool) → i < length names → name ≡ get_or names i name → key ≡ name → new ≡ cond (bytes_eq key q) true mid
    → mid ≡ (old || is_among (take i names) q) → new ≡ (old || is_among (take (i + 1) names) q)
name_added names i name key q new mid old lt is same new_is mid_is =
    new_is ∙ joined (bytes_eq key q) mid ∙ ap (λ b. b || bytes_eq key q) mid_is
    ∙ ap (λ b. (old || is_among (take i names) q) || b) (nat_list_eq_equiv.symm key q ∙ ap (bytes_eq q) (same ∙ is))
    ∙ or_assoc old (is_among (take i names) q) (bytes_eq q (get_or names i name))
    ∙ ap (λ b. old || b) (sym (list_any_more (bytes_eq q) names i name lt))

-- one name behind others
pub name_behind : (names : List (List ℕ)) (name key q : List ℕ) (new mid : Bool) → key ≡ name → new ≡ cond (bytes_eq key q) true mid → mid ≡ is_among names q → new ≡ is_among (names ++ name ∷ []) q
name_behind names name key q new mid same new_is mid_is =
    new_is ∙ joined (bytes_eq key q) mid ∙ ap (λ b. b || bytes_eq key q) mid_is
    ∙ ap (λ b. is_among names q || b) (nat_list_eq_equiv.symm key q ∙ ap (bytes_eq q) same)
    ∙ or_nothing (is_among names q) (bytes_eq q name)
    ∙ sym (list_any-append (bytes_eq q) names (name ∷ []))
