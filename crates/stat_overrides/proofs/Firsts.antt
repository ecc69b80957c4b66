-- The first shipped path of which something holds, found by going over them.
use Rattle.std.proofs.Common.{◌≡◌, ◌+◌, ◌<◌, ℕ, zero, suc, Bool, true, false, cond, List, [], ◌∷◌, ◌++◌, Option, Some, None, length, get_or, take, sym, ap, ◌∙◌, arith}
use Rattle.std.specs.List.{find}
use Rattle.std.specs.Option.{option_or}
use Rattle.std.proofs.lemmas.List.{take_more}
use Rattle.std.proofs.lemmas.List.Folds.{find-append}
use Rattle.package_tree.specs.declared.shipped.Shipped.{Shipped}

pub found_here : (p : Shipped → Bool) (xs : List Shipped) (i : ℕ) (x : Shipped) → i < length xs → x ≡ get_or xs i x → find p (take i xs) ≡ None → p x ≡ true → Some x ≡ find p xs
found_here p [] i x lt is none here = absurd (omega (arith, lt))
found_here p (y ∷ xs) zero x lt is none here = ap Some is ∙ ap (λ b. cond b (Some y) (find p xs)) (sym (ap p (sym is) ∙ here))
found_here p (y ∷ xs) (suc i) x lt is none here = at (p y) none (found_here p xs i x (omega (arith, lt)) is)
  where
    at : (b : Bool) → cond b (Some y) (find p (take i xs)) ≡ None → (find p (take i xs) ≡ None → p x ≡ true → Some x ≡ find p xs) → Some x ≡ cond b (Some y) (find p xs)
    at true some later = absurd (let e : Some y ≡ None = some in cc)
    at false rest later = later rest here

pub none_more : (p : Shipped → Bool) (xs : List Shipped) (i : ℕ) (x : Shipped) → i < length xs → x ≡ get_or xs i x → find p (take i xs) ≡ None → p x ≡ false → find p (take (i + 1) xs) ≡ None
none_more p xs i x lt is none here =
    ap (find p) (take_more xs i x lt ∙ ap (λ (y : Shipped). take i xs ++ y ∷ []) (sym is))
    ∙ find-append p (take i xs) (x ∷ [])
    ∙ ap (λ (o : Option Shipped). option_or o (cond (p x) (Some x) None)) none
    ∙ ap (λ b. cond b (Some x) None) here
