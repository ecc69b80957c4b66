-- The paths of one list, one after another.
use Rattle.std.proofs.Common.{◌≡◌, ◌+◌, ◌<◌, ℕ, Bool, true, false, cond, List, [], ◌∷◌, ◌++◌, map, filter, take, length, get_or, refl, sym, ap, ◌∙◌, append_assoc}
use Rattle.std.proofs.lemmas.List.{map-append}
use Rattle.std.proofs.lemmas.List.Elements.{filter_more}
use Rattle.host_core.specs.Paths.{Path}
use Rattle.file_lists.specs.declared.paths.Listed.{Listed}
use Rattle.file_lists.specs.Owners.{listed}

-- one path more, which lies at the place or doesn't
pub owned_more : (name : List ℕ) (test : Path → Bool) (paths : List Path) (i : ℕ) (x : Path) (first old new : List Listed) → i < length paths → x ≡ get_or paths i x → old ≡ first ++ map (listed name) (filter test (take i paths))
    → new ≡ old ++ cond (test x) (listed name x ∷ []) [] → new ≡ first ++ map (listed name) (filter test (take (i + 1) paths))
owned_more name test paths i x first old new lt is so_far more =
    more ∙ ap (λ (l : List Listed). l ++ cond (test x) (listed name x ∷ []) []) so_far ∙ append_assoc first (map (listed name) (filter test (take i paths))) (cond (test x) (listed name x ∷ []) [])
    ∙ ap (λ (l : List Listed). first ++ l) (
    ap (λ (l : List Listed). map (listed name) (filter test (take i paths)) ++ l) (at (test x))
    ∙ sym (map-append (listed name) (filter test (take i paths)) (cond (test x) (x ∷ []) []))
    ∙ ap (λ (y : Path). map (listed name) (filter test (take i paths) ++ cond (test y) (y ∷ []) [])) is
    ∙ ap (map (listed name)) (sym (filter_more test paths i x lt))
    )
  where
    at : (b : Bool) → cond b (listed name x ∷ []) [] ≡ map (listed name) (cond b (x ∷ []) [])
    at true = refl
    at false = refl
