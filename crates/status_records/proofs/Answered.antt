-- What follows from an answer, and from lines that were put together.
use Rattle.std.proofs.Common.{◌≡◌, ℕ, Bool, true, false, not, ◌&&◌, Result, Ok, Err, List, [], ◌∷◌, ◌++◌, refl, ap, ◌∙◌, append_assoc}
use Rattle.std.specs.Prelude.{OnOk}
use Rattle.std.proofs.lemmas.Bool.{true≢false}

pub on_ok : {T E P Q : Type 0} (r : Result T E) → (P → Q) → OnOk r P → OnOk r Q
on_ok (Ok x) so h = so h
on_ok (Err e) so h = tt

pub both_ok : {T E : Type 0} (P Q : Type 0) (r : Result T E) → OnOk r P → OnOk r Q → OnOk r (P × Q)
both_ok P Q (Ok x) p q = (p, q)
both_ok P Q (Err e) p q = tt

pub none_beside : (b : Bool) → b && false ≡ false
none_beside true = refl
none_beside false = refl

pub unturned : (b : Bool) → not b ≡ false → b ≡ true
unturned true e = refl
unturned false e = absurd (true≢false e)

-- a line, part by part
pub line_parts : (a b c d e f g path digest first second : List ℕ) → a ≡ [] → b ≡ a ++ 32 ∷ [] → c ≡ b ++ path → d ≡ c ++ 32 ∷ [] → e ≡ d ++ digest → f ≡ e ++ first → g ≡ f ++ second
    → g ≡ 32 ∷ (path ++ 32 ∷ (digest ++ (first ++ second)))
line_parts a b c d e f g path digest first second is_a is_b is_c is_d is_e is_f is_g =
    let at_b : b ≡ 32 ∷ [] = is_b ∙ ap (λ l. l ++ 32 ∷ []) is_a in
    let at_c : c ≡ 32 ∷ path = is_c ∙ ap (λ l. l ++ path) at_b in
    let at_d : d ≡ (32 ∷ path) ++ 32 ∷ [] = is_d ∙ ap (λ l. l ++ 32 ∷ []) at_c in
    let at_e : e ≡ (32 ∷ path) ++ 32 ∷ digest = is_e ∙ ap (λ l. l ++ digest) at_d ∙ append_assoc (32 ∷ path) (32 ∷ []) digest in
    let at_f : f ≡ (32 ∷ path) ++ 32 ∷ (digest ++ first) = is_f ∙ ap (λ l. l ++ first) at_e ∙ append_assoc (32 ∷ path) (32 ∷ digest) first in
    is_g ∙ ap (λ l. l ++ second) at_f ∙ append_assoc (32 ∷ path) (32 ∷ (digest ++ first)) second ∙ ap (λ l. 32 ∷ (path ++ 32 ∷ l)) (append_assoc digest first second)
