-- Whose turn it is to be configured (Policy 7.2).
use Rattle.std.specs.Prelude.{◌≡◌, ◌⊎◌, ℕ, Bool, true, IsTrue, Some, None}
use Rattle.dependency_check.specs.Waiting.{Waiting, IsConfigurableNow, IsNextOfConfigurable}
use Rattle.dependency_sets.specs.Choices.{IsFirst}
use Rattle.dependency_sets.specs.Sets.{has}

-- the next in the order that relations ask for
pub record IsInTurn (silent : ℕ → Bool) (q : Waiting) (x : ℕ) : Type 0 where
  pub next : IsNextOfConfigurable q silent (Some x)
  pub can : IsConfigurableNow q x

-- Out of order: Depends and Pre-Depends are ignored, by these none of those that wait can be configured, and it is the first of them.
pub record IsOutOfTurn (ignore_depends : Bool) (q : Waiting) (x : ℕ) : Type 0 where
  pub ignored : ignore_depends ≡ true
  pub none : (y : ℕ) → IsConfigurableNow q y → ⊥
  pub first : IsFirst (λ y. IsTrue (has q.waiting y)) x

abbrev pub IsWhoseTurn : Bool → (ℕ → Bool) → Waiting → ℕ → Type 0
IsWhoseTurn ignore_depends silent q x = IsInTurn silent q x ⊎ IsOutOfTurn ignore_depends q x

-- Nobody's turn: none can be configured; and where Depends and Pre-Depends are ignored, none waits.
pub record IsNobodysTurn (ignore_depends : Bool) (silent : ℕ → Bool) (q : Waiting) : Type 0 where
  pub none : IsNextOfConfigurable q silent None
  pub ignored : ignore_depends ≡ true → (x : ℕ) → IsTrue (has q.waiting x) → ⊥
