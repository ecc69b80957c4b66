-- Places that were gathered in a set.
use Rattle.std.proofs.Common.{◌≡◌, ◌+◌, ◌<◌, ℕ, Bool, true, false, cond, List, [], ◌∷◌, ◌++◌, map, take, length, get_or, sym, ap, ◌∙◌, arith}
use Rattle.std.specs.Prelude.{◌||◌}
use Rattle.std.specs.List.{list_any}
use Rattle.std.specs.Str.{bytes_eq}
use Rattle.std.proofs.lemmas.List.{take-map, get_or-map, length-map, map_more}
use Rattle.host_core.specs.Paths.{Path}
use Rattle.file_lists.proofs.Among.{name_added}
use Rattle.file_removal.specs.declared.leaving.Leaving.{Leaving}

-- one path's place more
pub place_added : (f : Path → Path) (paths : List Path) (i : ℕ) (path key q : Path) (new mid : Bool) → i < length paths → path ≡ get_or paths i path → key ≡ f path
    → new ≡ cond (bytes_eq key q) true mid → mid ≡ list_any (bytes_eq q) (map f (take i paths)) → new ≡ list_any (bytes_eq q) (map f (take (i + 1) paths))
place_added f paths i path key q new mid lt is same new_is mid_is =
    name_added (map f paths) i (f path) key q new mid (omega (arith, lt, length-map paths f)) (ap f is ∙ sym (get_or-map f paths i path (f path) lt)) same new_is
    (mid_is ∙ ap (list_any (bytes_eq q)) (sym (take-map f i paths)))
    ∙ ap (list_any (bytes_eq q)) (take-map f (i + 1) paths)

-- where none of the other reasons holds the last decides
pub last_decides : (a b c d : Bool) → a ≡ false → b ≡ false → c ≡ false → (a || (b || (c || d))) ≡ d
last_decides a b c d first second third = ap (λ t. t || (b || (c || d))) first ∙ ap (λ t. t || (c || d)) second ∙ ap (λ t. t || d) third

-- one listed path more
pub leaving_more : (of : Path → Leaving) (listed : List Path) (i : ℕ) (path : Path) (x : Leaving) (old new : List Leaving) → i < length listed → path ≡ get_or listed i path → old ≡ map of (take i listed) → x ≡ of path
    → new ≡ old ++ x ∷ [] → new ≡ map of (take (i + 1) listed)
leaving_more of listed i path x old new lt is so_far one more =
    more ∙ ap (λ (l : List Leaving). l ++ x ∷ []) so_far ∙ ap (λ y. map of (take i listed) ++ y ∷ []) (one ∙ ap of is) ∙ sym (map_more of listed i path lt)
