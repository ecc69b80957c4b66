-- What callers see of the open table.
use Rattle.std.specs.Prelude.{Bool}
use Rattle.diversions.specs.Ways.{Ways}

-- its entries in the order of adding with the aliases of the root, and whether a fault came while it was changed
pub record Diverted : Type 0 where
  pub ways : Ways
  pub closed : Bool
