-- Lines that are added one after the other.
use Rattle.std.proofs.Common.{◌≡◌, ◌<◌, ◌≤◌, ◌+◌, ◌∙◌, ◌++◌, [], ◌∷◌, ℕ, List, length, take, get_or, ap, sym}
use Rattle.std.specs.List.{flat_map}
use Rattle.std.proofs.lemmas.List.{flat_map_more, take_more, take_all}

pub line_more : {X : Type 0} (text_of : X → List ℕ) (xs : List X) (i : ℕ) (x : X) (start before line now : List ℕ) → i < length xs → x ≡ get_or xs i x → before ≡ start ++ flat_map text_of (take i xs) → line ≡ text_of x → now ≡ before ++ line → now ≡ start ++ flat_map text_of (take (i + 1) xs)
line_more text_of xs i x start before line now lt is so_far same added =
    added ∙ ap (λ (b : List ℕ). b ++ line) so_far ∙ ap (λ (l : List ℕ). (start ++ flat_map text_of (take i xs)) ++ l) same
    ∙ flat_map_more text_of start (take i xs) x
    ∙ ap (λ ys. start ++ flat_map text_of ys) (ap (λ y. take i xs ++ y ∷ []) is ∙ sym (take_more xs i x lt))

pub lines_all : {X : Type 0} (text_of : X → List ℕ) (xs : List X) (i : ℕ) (start now : List ℕ) → length xs ≤ i → now ≡ start ++ flat_map text_of (take i xs) → now ≡ start ++ flat_map text_of xs
lines_all text_of xs i start now all so_far = so_far ∙ ap (λ ys. start ++ flat_map text_of ys) (take_all i xs all)
