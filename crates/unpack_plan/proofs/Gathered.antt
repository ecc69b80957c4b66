-- What was gathered from the first of a list.
use Rattle.std.proofs.Common.{◌≡◌, ◌+◌, ◌<◌, ℕ, Bool, true, false, cond, List, [], ◌∷◌, ◌++◌, map, take, length, get_or, sym, ap, ◌∙◌, arith, append_assoc, append-nil}
use Rattle.std.specs.List.{list_any, filter}
use Rattle.std.specs.Str.{bytes_eq}
use Rattle.std.proofs.lemmas.List.{take-map, get_or-map, length-map, map_more, map-append}
use Rattle.std.proofs.lemmas.List.Elements.{filter-append}
use Rattle.administration.proofs.Within.{taken_more}
use Rattle.host_core.specs.Paths.{Path}
use Rattle.file_lists.proofs.Among.{name_added}

-- one text more in a set
pub text_added : {X : Type 0} (f : X → Path) (xs : List X) (i : ℕ) (x : X) (key q : Path) (new mid : Bool) → i < length xs → x ≡ get_or xs i x → key ≡ f x
    → new ≡ cond (bytes_eq key q) true mid → mid ≡ list_any (bytes_eq q) (map f (take i xs)) → new ≡ list_any (bytes_eq q) (map f (take (i + 1) xs))
text_added f xs i x key q new mid lt is same new_is mid_is =
    name_added (map f xs) i (f x) key q new mid (omega (arith, lt, length-map xs f)) (ap f is ∙ sym (get_or-map f xs i x (f x) lt)) same new_is
    (mid_is ∙ ap (list_any (bytes_eq q)) (sym (take-map f i xs)))
    ∙ ap (list_any (bytes_eq q)) (take-map f (i + 1) xs)

-- one more of what each gives
pub mapped_more : {X Y : Type 0} (f : X → Y) (xs : List X) (i : ℕ) (x : X) (y : Y) (base old new : List Y) → i < length xs → x ≡ get_or xs i x → old ≡ base ++ map f (take i xs) → y ≡ f x → new ≡ old ++ y ∷ [] → new ≡ base ++ map f (take (i + 1) xs)
mapped_more {Y = Y} f xs i x y base old new lt is so_far one more =
    more ∙ ap (λ (l : List Y). l ++ y ∷ []) so_far ∙ append_assoc base (map f (take i xs)) (y ∷ [])
    ∙ ap (λ (l : List Y). base ++ l) (ap (λ z. map f (take i xs) ++ z ∷ []) (one ∙ ap f is) ∙ sym (map_more f xs i x lt))

-- of those that pass
chosen : {X Y : Type 0} (P : X → Bool) (f : X → Y) (xs : List X) (i : ℕ) (x : X) (b : Bool) → i < length xs → x ≡ get_or xs i x → P x ≡ b → map f (filter P (take (i + 1) xs)) ≡ map f (filter P (take i xs)) ++ map f (cond b (x ∷ []) [])
chosen {X = X} P f xs i x b lt is told =
    ap (λ (l : List X). map f (filter P l)) (taken_more xs i x lt is) ∙ ap (map f) (filter-append P (take i xs) (x ∷ [])) ∙ map-append f (filter P (take i xs)) (filter P (x ∷ []))
    ∙ ap (λ t. map f (filter P (take i xs)) ++ map f (cond t (x ∷ []) [])) told

pub passed_over : {X Y : Type 0} (P : X → Bool) (f : X → Y) (xs : List X) (i : ℕ) (x : X) (base old : List Y) → i < length xs → x ≡ get_or xs i x → P x ≡ false → old ≡ base ++ map f (filter P (take i xs)) → old ≡ base ++ map f (filter P (take (i + 1) xs))
passed_over {Y = Y} P f xs i x base old lt is told so_far =
    so_far ∙ ap (λ (l : List Y). base ++ l) (sym (chosen P f xs i x false lt is told ∙ append-nil (map f (filter P (take i xs)))))

pub chosen_more : {X Y : Type 0} (P : X → Bool) (f : X → Y) (xs : List X) (i : ℕ) (x : X) (y : Y) (base old new : List Y) → i < length xs → x ≡ get_or xs i x → P x ≡ true → old ≡ base ++ map f (filter P (take i xs)) → y ≡ f x → new ≡ old ++ y ∷ []
    → new ≡ base ++ map f (filter P (take (i + 1) xs))
chosen_more {Y = Y} P f xs i x y base old new lt is told so_far one more =
    more ∙ ap (λ (l : List Y). l ++ y ∷ []) so_far ∙ append_assoc base (map f (filter P (take i xs))) (y ∷ [])
    ∙ ap (λ (l : List Y). base ++ l) (ap (λ z. map f (filter P (take i xs)) ++ z ∷ []) one ∙ sym (chosen P f xs i x true lt is told))
