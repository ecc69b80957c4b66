-- Lists of paths in their order.
use Rattle.std.proofs.Common.{◌≡◌, ◌⊎◌, ◌≤◌, zero, suc, List, [], ◌∷◌, ◌++◌, take, drop, length, refl, sym, ap, ap₂, subst, ◌∙◌, inl, inr, arith}
use Rattle.std.specs.Prelude.{Contains}
use Rattle.std.specs.List.{AllByRecursion}
use Rattle.std.proofs.Math.Seq.{split_at}
use Rattle.std.proofs.lemmas.List.Elements.{Contains-append_right}
use Rattle.host_core.specs.Paths.{Path}
use Rattle.package_tree.specs.Shipped.{IsBefore, AreInOrder}
use Rattle.package_tree.proofs.PathOrder.{before_then, not_before_itself, each_of}

pub none_in : {X : Type 0} (x : X) → Contains [] x → ⊥
none_in x has = omega (arith, has.1)

pub in_first : {X : Type 0} (x : X) (xs : List X) → Contains (x ∷ xs) x
in_first x xs = (0, omega arith, refl)

pub in_later : {X : Type 0} (y : X) (xs : List X) (x : X) → Contains xs x → Contains (y ∷ xs) x
in_later y xs x has = (suc has.0, omega (arith, has.1), has.2)

pub first_or_later : {X : Type 0} (y : X) (xs : List X) (x : X) → Contains (y ∷ xs) x → (y ≡ x) ⊎ Contains xs x
first_or_later y xs x (zero, lt, is) = inl is
first_or_later y xs x (suc n, lt, is) = inr (n, omega (arith, lt), is)

-- the list before and behind an element
pub around : {X : Type 0} (xs : List X) (x : X) → Contains xs x → (front : List X) × (rest : List X) × (xs ≡ front ++ x ∷ rest)
around {X} xs x has = (take has.0 xs, drop (suc has.0) xs, split_at xs has.0 x has.1 ∙ ap (λ (y : X). take has.0 xs ++ y ∷ drop (suc has.0) xs) has.2)

all_front : (P : Path → Type 0) (front rest : List Path) → AllByRecursion P (front ++ rest) → AllByRecursion P front
all_front P [] rest all = tt
all_front P (x ∷ front) rest all = (all.0, all_front P front rest all.1)

pub order_front : (front rest : List Path) → AreInOrder (front ++ rest) → AreInOrder front
order_front [] rest order = tt
order_front (x ∷ front) rest order = (all_front (IsBefore x) front rest order.0, order_front front rest order.1)

pub order_rest : (front rest : List Path) → AreInOrder (front ++ rest) → AreInOrder rest
order_rest [] rest order = order
order_rest (x ∷ front) rest order = order_rest front rest order.1

-- what stands before a path in an ordered list comes before it
pub ahead : (front rest : List Path) (p q : Path) → AreInOrder (front ++ p ∷ rest) → Contains front q → IsBefore q p
ahead [] rest p q order has = absurd (none_in q has)
ahead (x ∷ front) rest p q order has = elim (first_or_later x front q has) [
  | inl is ↦ subst (λ (y : Path). IsBefore y p) is (each_of (IsBefore x) (front ++ p ∷ rest) p order.0 (Contains-append_right front (p ∷ rest) p (in_first p rest)))
  | inr later ↦ ahead front rest p q order.1 later
]

-- a list in order whose paths are all among those of another isn't longer
pub not_more : (xs ys : List Path) → AreInOrder xs → AreInOrder ys → ((q : Path) → Contains xs q → Contains ys q) → length xs ≤ length ys
not_more [] ys ox oy among = omega arith
not_more (x ∷ xs) [] ox oy among = absurd (none_in x (among x (in_first x xs)))
not_more (x ∷ xs) (y ∷ ys) ox oy among = elim (first_or_later y ys x (among x (in_first x xs))) [
  | inl same ↦ (let fewer : length xs ≤ length ys = not_more xs ys ox.1 oy.1 (λ q has. elim (first_or_later y ys q (among q (in_later x xs q has))) [
    | inl is ↦ absurd (not_before_itself q (subst (λ (p : Path). IsBefore p q) (sym same ∙ is) (each_of (IsBefore x) xs q ox.0 has)))
    | inr later ↦ later
  ]) in
      omega (arith, fewer))
  | inr later ↦ (let less : IsBefore y x = each_of (IsBefore y) ys x oy.0 later in
      let fewer : length (x ∷ xs) ≤ length ys = not_more (x ∷ xs) ys ox oy.1 (λ q has. elim (first_or_later y ys q (among q has)) [
        | inl is ↦ absurd (elim (first_or_later x xs q has) [
          | inl at ↦ not_before_itself x (subst (λ (p : Path). IsBefore p x) (is ∙ sym at) less)
          | inr on ↦ not_before_itself y (before_then y x y less (subst (IsBefore x) (sym is) (each_of (IsBefore x) xs q ox.0 on)))
        ])
        | inr at ↦ at
      ]) in
      omega (arith, fewer))
]

-- two lists in order with the same paths are one
pub same_list : (xs ys : List Path) → AreInOrder xs → AreInOrder ys → ((q : Path) → Contains xs q → Contains ys q) → ((q : Path) → Contains ys q → Contains xs q) → xs ≡ ys
same_list [] [] ox oy there back = refl
same_list [] (y ∷ ys) ox oy there back = absurd (none_in y (back y (in_first y ys)))
same_list (x ∷ xs) [] ox oy there back = absurd (none_in x (there x (in_first x xs)))
same_list (x ∷ xs) (y ∷ ys) ox oy there back =
    let head : x ≡ y = elim (first_or_later y ys x (there x (in_first x xs))) [
      | inl is ↦ sym is
      | inr later ↦ elim (first_or_later x xs y (back y (in_first y ys))) [
        | inl is ↦ is
        | inr on ↦ absurd (not_before_itself x (before_then x y x (each_of (IsBefore x) xs y ox.0 on) (each_of (IsBefore y) ys x oy.0 later)))
      ]
    ] in
    let tail : xs ≡ ys = same_list xs ys ox.1 oy.1
    (λ q has. elim (first_or_later y ys q (there q (in_later x xs q has))) [
      | inl is ↦ absurd (not_before_itself q (subst (λ (p : Path). IsBefore p q) (head ∙ is) (each_of (IsBefore x) xs q ox.0 has)))
      | inr later ↦ later
    ])
    (λ q has. elim (first_or_later x xs q (back q (in_later y ys q has))) [
      | inl is ↦ absurd (not_before_itself q (subst (λ (p : Path). IsBefore p q) (sym head ∙ is) (each_of (IsBefore y) ys q oy.0 has)))
      | inr later ↦ later
    ]) in
    ap₂ (λ (p : Path) (ps : List Path). p ∷ ps) head tail
