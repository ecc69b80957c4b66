-- Whose turn it is to be removed (Policy 6.8, 7.2).
use Rattle.std.specs.Prelude.{◌≡◌, ◌⊎◌, ℕ, Bool, true, IsTrue, Some}
use Rattle.dependency_check.specs.Waiting.{Waiting, IsNextOfRemovable, IsRemovableNow}
use Rattle.dependency_sets.specs.Choices.{IsFirst}
use Rattle.dependency_sets.specs.Sets.{has}

-- the next in the order that relations ask for
pub record IsInTurn (q : Waiting) (x : ℕ) : Type 0 where
  pub next : IsNextOfRemovable q (Some x)
  pub can : IsRemovableNow q x

-- Out of order: it is ignored that others depend on it, by that none of those that wait can be removed, and it is the first of them.
pub record IsOutOfTurn (ignore_depends : Bool) (q : Waiting) (x : ℕ) : Type 0 where
  pub ignored : ignore_depends ≡ true
  pub none : (y : ℕ) → IsRemovableNow q y → ⊥
  pub first : IsFirst (λ y. IsTrue (has q.waiting y)) x

abbrev pub IsWhoseTurn : Bool → Waiting → ℕ → Type 0
IsWhoseTurn ignore_depends q x = IsInTurn q x ⊎ IsOutOfTurn ignore_depends q x

-- Nobody's turn: none can be removed; and where it is ignored that others depend on them, none waits.
pub record IsNobodysTurn (ignore_depends : Bool) (q : Waiting) : Type 0 where
  pub none : (x : ℕ) → IsRemovableNow q x → ⊥
  pub ignored : ignore_depends ≡ true → (x : ℕ) → IsTrue (has q.waiting x) → ⊥
