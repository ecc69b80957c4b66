-- The first of a set.
use Rattle.std.specs.Prelude.{ℕ, ◌<◌, ◌↔◌, List}
use Rattle.std.specs.List.{AllPairs, Contains}

abbrev pub IsFirst : (ℕ → Type 0) → ℕ → Type 0
IsFirst P x = P x × ((y : ℕ) → y < x → P y → ⊥)

-- the members of a set in name order, each once
abbrev pub IsListing : (ℕ → Type 0) → List ℕ → Type 0
IsListing P list = AllPairs (λ a b. a < b) list × ((x : ℕ) → Contains list x ↔ P x)
