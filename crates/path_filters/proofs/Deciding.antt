-- The last filter that matches decides.
use Rattle.std.proofs.Common.{◌≡◌, ℕ, Bool, true, false, not, ◌&&◌, ◌||◌, List, [], ◌∷◌, ◌++◌, refl, ap, ◌∙◌, arith}
use Rattle.name_patterns.specs.Patterns.{matches}
use Rattle.path_filters.specs.Filters.{is_excluded, is_matched}
use Rattle.path_filters.specs.declared.filters.Filter.{Filter}

matched_last : (fs : List Filter) (f : Filter) (path : List ℕ) → matches f.pattern path ≡ true → is_matched (fs ++ f ∷ []) path ≡ true
matched_last [] f path is = ap (λ x. x || false) is
matched_last (g ∷ gs) f path is = ap (λ x. matches g.pattern path || x) (matched_last gs f path is) ∙ or_true (matches g.pattern path)
  where
    or_true : (a : Bool) → a || true ≡ true
    or_true true = refl
    or_true false = refl

matched_other : (fs : List Filter) (f : Filter) (path : List ℕ) → matches f.pattern path ≡ false → is_matched (fs ++ f ∷ []) path ≡ is_matched fs path
matched_other [] f path isnt = ap (λ x. x || false) isnt
matched_other (g ∷ gs) f path isnt = ap (λ x. matches g.pattern path || x) (matched_other gs f path isnt)

alone : (i m : Bool) → m ≡ true → false || (not i && m && true) ≡ not i
alone true true e = refl
alone false true e = refl
alone i false e = grind arith

none_left : (x i m : Bool) → x || (not i && m && not true) ≡ x
none_left true i m = refl
none_left false true m = refl
none_left false false true = refl
none_left false false false = refl

pub last : (fs : List Filter) (f : Filter) (path : List ℕ) → matches f.pattern path ≡ true → is_excluded (fs ++ f ∷ []) path ≡ not f.includes
last [] f path is = alone f.includes (matches f.pattern path) is
last (g ∷ gs) f path is =
    ap (λ x. is_excluded (gs ++ f ∷ []) path || (not g.includes && matches g.pattern path && not x)) (matched_last gs f path is)
    ∙ none_left (is_excluded (gs ++ f ∷ []) path) g.includes (matches g.pattern path)
    ∙ last gs f path is

unmatched : (i m : Bool) → m ≡ false → false || (not i && m && true) ≡ false
unmatched true m e = refl
unmatched false true e = grind arith
unmatched false false e = refl

pub other : (fs : List Filter) (f : Filter) (path : List ℕ) → matches f.pattern path ≡ false → is_excluded (fs ++ f ∷ []) path ≡ is_excluded fs path
other [] f path isnt = unmatched f.includes (matches f.pattern path) isnt
other (g ∷ gs) f path isnt =
    ap (λ x. is_excluded (gs ++ f ∷ []) path || (not g.includes && matches g.pattern path && not x)) (matched_other gs f path isnt)
    ∙ ap (λ x. x || (not g.includes && matches g.pattern path && not (is_matched gs path))) (other gs f path isnt)
