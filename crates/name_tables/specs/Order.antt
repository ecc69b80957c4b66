-- Values in the order of their names' bytes, each name once, and the place of a name among them. What the name of a value is, is given.
use Rattle.std.specs.Prelude.{◌≡◌, ◌<◌, ◌≤◌, ℕ, List, [], ◌∷◌, map, length, get_or}
use Rattle.std.specs.List.{AllByRecursion}
use Rattle.std.specs.Ordering.{nat_cmp}
use Rattle.std.specs.Cmp.Lexicographic.{slice_cmp}
use Rattle.std.specs.declared.cmp.Ordering.TheVariants.{Less}

abbrev pub IsBefore : List ℕ → List ℕ → Type 0
IsBefore name other = slice_cmp nat_cmp name other ≡ Less

-- the name comes before those of all these values
abbrev pub IsBeforeAll : {X : Type 0} → (X → List ℕ) → List ℕ → List X → Type 0
IsBeforeAll called name xs = AllByRecursion (λ x. IsBefore name (called x)) xs

-- in the order of names, each name once
abbrev pub AreInOrder : {X : Type 0} → (X → List ℕ) → List X → Type 0
AreInOrder called [] = Unit {0}
AreInOrder called (x ∷ xs) = IsBeforeAll called (called x) xs × AreInOrder called xs

abbrev pub names_of : {X : Type 0} → (X → List ℕ) → List X → List (List ℕ)
names_of called xs = map called xs

-- so many of the values come before a name, and the next one doesn't
pub record IsPlaceOf {X : Type 0} (called : X → List ℕ) (xs : List X) (name : List ℕ) (at : ℕ) : Type 0 where
  pub within : at ≤ length xs
  pub before : (k : ℕ) → k < at → IsBefore (get_or (names_of called xs) k []) name
  pub here : at < length xs → IsBefore (get_or (names_of called xs) at []) name → ⊥

-- the value that stands there is of this name
abbrev pub IsThere : {X : Type 0} → (X → List ℕ) → List X → List ℕ → ℕ → Type 0
IsThere called xs name at = (at < length xs) × (get_or (names_of called xs) at [] ≡ name)
