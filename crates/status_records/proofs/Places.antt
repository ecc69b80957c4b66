-- How many elements pass a test, from the first on: the steps of a loop that counts them.
use Rattle.std.proofs.Common.{◌≡◌, ℕ, zero, suc, ◌+◌, ◌<◌, IsTrue, Bool, true, false, cond, List, [], ◌∷◌, length, drop, get_or, Bor, refl, sym, ap, ◌∙◌, arith}
use Rattle.std.specs.Prelude.{◌↔◌}
use Rattle.std.specs.List.{AllByRecursion, prefix_len}
use Rattle.std.specs.Str.{bytes_eq}
use Rattle.std.proofs.lemmas.List.{at_drop_more, drop_all}
use Rattle.std.proofs.lemmas.Slice.Eq.{bytes_eq-Decides}
use Rattle.control_fields.specs.Names.{lower}

pub prefix_on : {X : Type 0} (q : X → Bool) (xs : List X) (i : ℕ) (d : X) → i < length xs → q (get_or xs i d) ≡ true → prefix_len q xs ≡ i + prefix_len q (drop i xs) → prefix_len q xs ≡ (i + 1) + prefix_len q (drop (i + 1) xs)
prefix_on q xs i d lt is so_far =
    let step : prefix_len q (drop i xs) ≡ cond (q (get_or xs i d)) (1 + prefix_len q (drop (i + 1) xs)) 0 = at_drop_more (prefix_len q) xs i d lt in
    let on : prefix_len q (drop i xs) ≡ 1 + prefix_len q (drop (i + 1) xs) = step ∙ ap (λ b. cond b (1 + prefix_len q (drop (i + 1) xs)) 0) is in
    omega (arith, so_far, on)

pub prefix_stop : {X : Type 0} (q : X → Bool) (xs : List X) (i : ℕ) (d : X) → i < length xs → q (get_or xs i d) ≡ false → prefix_len q xs ≡ i + prefix_len q (drop i xs) → i ≡ prefix_len q xs
prefix_stop q xs i d lt is so_far =
    let step : prefix_len q (drop i xs) ≡ cond (q (get_or xs i d)) (1 + prefix_len q (drop (i + 1) xs)) 0 = at_drop_more (prefix_len q) xs i d lt in
    let stop : prefix_len q (drop i xs) ≡ 0 = step ∙ ap (λ b. cond b (1 + prefix_len q (drop (i + 1) xs)) 0) is in
    omega (arith, so_far, stop)

pub prefix_all : {X : Type 0} (q : X → Bool) (xs : List X) (i : ℕ) → i ≡ length xs → prefix_len q xs ≡ i + prefix_len q (drop i xs) → length xs ≡ prefix_len q xs
prefix_all q xs i end so_far =
    let none : prefix_len q (drop i xs) ≡ 0 = ap (prefix_len q) (drop_all i xs (omega (arith, end))) in
    omega (arith, so_far, none, end)

-- a name among those in lower case

all_at : {X : Type 0} (P : X → Type 0) (xs : List X) (i : ℕ) (d : X) → i < length xs → AllByRecursion P xs → P (get_or xs i d)
all_at P [] i d lt all = absurd (omega (arith, lt))
all_at P (x ∷ xs) zero d lt all = all.0
all_at P (x ∷ xs) (suc i) d lt all = all_at P xs i d (omega (arith, lt)) all.1

same_test : (a b : Bool) → (a ≡ true → b ≡ true) → (b ≡ true → a ≡ true) → a ≡ b
same_test true b on back = sym (on refl)
same_test false true on back = back refl
same_test false false on back = refl

pub named_at : (name other : List ℕ) (names : List (Bor (List ℕ))) (i : ℕ) (d : Bor (List ℕ)) (b : Bool) → i < length names → AllByRecursion (λ n. lower n.now ≡ n.now) names → other ≡ (get_or names i d).now → (IsTrue b ↔ (lower name ≡ lower other)) → bytes_eq (lower name) (get_or names i d).now ≡ b
named_at name other names i d b lt low is test =
    let same : lower other ≡ (get_or names i d).now = ap lower is ∙ all_at (λ n. lower n.now ≡ n.now) names i d lt low in
    same_test (bytes_eq (lower name) (get_or names i d).now) b
    (λ t. test.1 ((bytes_eq-Decides (lower name) (get_or names i d).now).0 t ∙ sym same))
    (λ t. (bytes_eq-Decides (lower name) (get_or names i d).now).1 (test.0 t ∙ same))
