-- What one more hits, behind what was found.
use Rattle.std.proofs.Common.{◌≡◌, ◌+◌, ◌<◌, ◌++◌, ◌∙◌, ◌∷◌, [], ℕ, List, length, map, take, get_or, ap, sym, append_assoc}
use Rattle.std.proofs.lemmas.List.{map_more}
use Rattle.host_core.specs.World.{World}
use Rattle.trigger_watch.specs.declared.hits.Hits.{Hits}

pub one_more : {X : Type 0} (by : World → X → Hits) (w v : World) (xs : List X) (i : ℕ) (x : X) (hits : Hits) (before found now : List Hits) → v ≡ w → i < length xs
    → x ≡ get_or xs i x → found ≡ before ++ map (by w) (take i xs) → hits ≡ by v x → now ≡ found ++ hits ∷ [] → now ≡ before ++ map (by w) (take (i + 1) xs)
one_more by w v xs i x hits before found now same lt is so_far here added =
    let this : hits ≡ by w (get_or xs i x) = here ∙ ap (λ (u : World). by u x) same ∙ ap (by w) is in
    added ∙ ap (λ (l : List Hits). l ++ hits ∷ []) so_far ∙ append_assoc before (map (by w) (take i xs)) (hits ∷ [])
    ∙ ap (λ (h : Hits). before ++ (map (by w) (take i xs) ++ h ∷ [])) this ∙ ap (λ (l : List Hits). before ++ l) (sym (map_more (by w) xs i x lt))
