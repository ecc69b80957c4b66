-- The order of bytes, in which names and paths stand.
use Rattle.std.specs.Prelude.{ℕ, List}
pub use Rattle.name_tables.specs.Order.{IsBefore}
use Rattle.name_tables.specs.Order.{AreInOrder}

-- in the order of their bytes, each once
abbrev pub AreIncreasing : List (List ℕ) → Type 0
AreIncreasing = AreInOrder (λ (text : List ℕ). text)
