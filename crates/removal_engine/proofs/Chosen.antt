-- Names of which some are chosen, one after another.
use Rattle.std.proofs.Common.{◌≡◌, ℕ, ◌+◌, ◌<◌, Bool, true, false, not, cond, List, [], ◌∷◌, ◌++◌, map, take, length, get_or, sym, ap, ◌∙◌, append_assoc}
use Rattle.std.specs.Prelude.{filter}
use Rattle.std.specs.List.{flat_map}
use Rattle.std.proofs.lemmas.Grind.{flat_map-append}
use Rattle.std.proofs.lemmas.List.{take_more, append-nil, map_more, map-append}
use Rattle.std.proofs.lemmas.List.Elements.{filter-append}
use Rattle.administration.proofs.Within.{taken_more}
use Rattle.host_core.specs.Paths.{Path}
use Rattle.diversions.specs.Ways.{Ways}
use Rattle.file_lists.specs.Owners.{has_other_owner}
use Rattle.file_lists.specs.declared.paths.PackageList.{PackageList}
use Rattle.list_changes.specs.Clearable.{clearable, is_clearable}
use Rattle.removal_engine.specs.Names.{ownerless}

-- one more of what is chosen name by name
pub gathered : (F : List Path → List Path) → ((xs ys : List Path) → F (xs ++ ys) ≡ F xs ++ F ys) → (done : List Path) (p q : Path) (base mid new : List Path) → mid ≡ base ++ F done → new ≡ mid ++ F (q ∷ []) → q ≡ p → new ≡ base ++ F (done ++ p ∷ [])
gathered F law done p q base mid new so_far more same =
    more ∙ ap (λ (l : List Path). l ++ F (q ∷ [])) so_far ∙ append_assoc base (F done) (F (q ∷ []))
    ∙ ap (λ (l : List Path). base ++ l) (ap (λ (n : Path). F done ++ F (n ∷ [])) same ∙ sym (law done (p ∷ [])))

pub clearable_law : (xs ys : List Path) → clearable (xs ++ ys) ≡ clearable xs ++ clearable ys
clearable_law xs ys = filter-append is_clearable xs ys

pub ownerless_law : (ways : Ways) (lists : List PackageList) (name : List ℕ) (xs ys : List Path) → ownerless ways lists name (xs ++ ys) ≡ ownerless ways lists name xs ++ ownerless ways lists name ys
ownerless_law ways lists name xs ys =
    let free = λ (q : Path). not (has_other_owner ways lists name q) in
    ap (filter free) (clearable_law xs ys) ∙ filter-append free (clearable xs) (clearable ys)

-- what one more gives
pub flat_more : {X Y : Type 0} (f : X → List Y) (xs : List X) (i : ℕ) (x : X) (base old new : List Y) → i < length xs → x ≡ get_or xs i x → old ≡ base ++ flat_map f (take i xs) → new ≡ old ++ f x → new ≡ base ++ flat_map f (take (i + 1) xs)
flat_more {X = X} {Y = Y} f xs i x base old new lt is so_far more =
    more ∙ ap (λ (l : List Y). l ++ f x) so_far ∙ append_assoc base (flat_map f (take i xs)) (f x)
    ∙ ap (λ (l : List Y). base ++ l)
    (ap (λ (l : List Y). flat_map f (take i xs) ++ l) (sym (append-nil (f x)))
    ∙ sym (flat_map-append f (take i xs) (x ∷ []))
    ∙ ap (flat_map f) (sym (take_more xs i x lt ∙ ap (λ (y : X). take i xs ++ y ∷ []) (sym is))))

-- one more of what each gives
pub mapped_more : {X Y : Type 0} (f : X → Y) (xs : List X) (i : ℕ) (x : X) (y : Y) (old new : List Y) → i < length xs → x ≡ get_or xs i x → old ≡ map f (take i xs) → y ≡ f x → new ≡ old ++ y ∷ [] → new ≡ map f (take (i + 1) xs)
mapped_more {Y = Y} f xs i x y old new lt is so_far one more =
    more ∙ ap (λ (l : List Y). l ++ y ∷ []) so_far ∙ ap (λ z. map f (take i xs) ++ z ∷ []) (one ∙ ap f is) ∙ sym (map_more f xs i x lt)

-- of those that pass
chosen : {X Y : Type 0} (P : X → Bool) (f : X → Y) (xs : List X) (i : ℕ) (x : X) (b : Bool) → i < length xs → x ≡ get_or xs i x → P x ≡ b → map f (filter P (take (i + 1) xs)) ≡ map f (filter P (take i xs)) ++ map f (cond b (x ∷ []) [])
chosen {X = X} P f xs i x b lt is told =
    ap (λ (l : List X). map f (filter P l)) (taken_more xs i x lt is) ∙ ap (map f) (filter-append P (take i xs) (x ∷ [])) ∙ map-append f (filter P (take i xs)) (filter P (x ∷ []))
    ∙ ap (λ t. map f (filter P (take i xs)) ++ map f (cond t (x ∷ []) [])) told

pub passed_over : {X Y : Type 0} (P : X → Bool) (f : X → Y) (xs : List X) (i : ℕ) (x : X) (old : List Y) → i < length xs → x ≡ get_or xs i x → P x ≡ false → old ≡ map f (filter P (take i xs)) → old ≡ map f (filter P (take (i + 1) xs))
passed_over P f xs i x old lt is told so_far = so_far ∙ sym (chosen P f xs i x false lt is told ∙ append-nil (map f (filter P (take i xs))))

pub chosen_more : {X Y : Type 0} (P : X → Bool) (f : X → Y) (xs : List X) (i : ℕ) (x : X) (y : Y) (old new : List Y) → i < length xs → x ≡ get_or xs i x → P x ≡ true → old ≡ map f (filter P (take i xs)) → y ≡ f x → new ≡ old ++ y ∷ []
    → new ≡ map f (filter P (take (i + 1) xs))
chosen_more {Y = Y} P f xs i x y old new lt is told so_far one more =
    more ∙ ap (λ (l : List Y). l ++ y ∷ []) so_far ∙ ap (λ z. map f (filter P (take i xs)) ++ z ∷ []) one ∙ sym (chosen P f xs i x true lt is told)
