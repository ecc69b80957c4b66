-- A set that has the names of a list.
use Rattle.std.proofs.Common.{◌≡◌, ℕ, Bool, true, false, cond, ◌||◌, List, [], ◌∷◌, ◌++◌, refl, sym, ap, ◌∙◌}
use Rattle.std.specs.List.{list_any}
use Rattle.std.specs.Str.{bytes_eq}
use Rattle.std.proofs.lemmas.Cmp.{nat_list_eq_equiv}
use Rattle.std.proofs.lemmas.List.Folds.{list_any-append}

pub set_more : (name : List ℕ) (names : List (List ℕ)) (q : List ℕ) (old new : Bool) → new ≡ cond (bytes_eq name q) true old → old ≡ list_any (bytes_eq q) names → new ≡ list_any (bytes_eq q) (names ++ name ∷ [])
set_more name names q old new more so_far =
    more ∙ by (bytes_eq name q) old ∙ ap (λ (b : Bool). b || (bytes_eq name q || false)) so_far ∙ ap (λ (b : Bool). list_any (bytes_eq q) names || (b || false)) (nat_list_eq_equiv.symm name q)
    ∙ sym (list_any-append (bytes_eq q) names (name ∷ []))
  where
    by : (a b : Bool) → cond a true b ≡ b || (a || false)
    by true true = refl
    by true false = refl
    by false true = refl
    by false false = refl
