use Rattle.std.proofs.Common.{◌+◌, ◌<◌, ℕ, [], get_or}
use Rattle.name_tables.specs.Order.{IsBefore, names_of}
use Rattle.name_tables.proofs.places.are_in_order.Given as goal

abbrev pub invariant-loop-at : goal.invariant-loop-at
invariant-loop-at g l = (k : ℕ) → k + 1 < l.at → IsBefore (get_or (names_of g.T.Named.called l.values) k []) (get_or (names_of g.T.Named.called l.values) (k + 1) [])
