-- A table of values by their names: what it has under a name, and with one value more or less.
use Rattle.std.specs.Prelude.{ℕ, cond, not, List, [], ◌∷◌, Option, Some, None, filter}
use Rattle.std.specs.Str.{bytes_eq}
use Rattle.std.specs.Ordering.{nat_cmp, is_lt}
use Rattle.std.specs.Cmp.Lexicographic.{slice_cmp}

-- the first value of a name
abbrev pub value_in : {X : Type 0} → (X → List ℕ) → List X → List ℕ → Option X
value_in called [] name = None
value_in called (x ∷ xs) name = cond (bytes_eq (called x) name) (Some x) (value_in called xs name)

-- all values but that of a name
abbrev pub drop_value : {X : Type 0} → (X → List ℕ) → List ℕ → List X → List X
drop_value called name xs = filter (λ x. not (bytes_eq (called x) name)) xs

-- a value before the first of a greater name
abbrev pub place_value : {X : Type 0} → (X → List ℕ) → X → List X → List X
place_value called x [] = x ∷ []
place_value called x (y ∷ ys) = cond (is_lt (slice_cmp nat_cmp (called y) (called x))) (y ∷ place_value called x ys) (x ∷ y ∷ ys)

-- the value of its name is this one
abbrev pub put_value : {X : Type 0} → (X → List ℕ) → X → List X → List X
put_value called x xs = place_value called x (drop_value called (called x) xs)
