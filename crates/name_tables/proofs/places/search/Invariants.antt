use Rattle.std.proofs.Common.{◌-◌, ◌<◌, ◌≤◌, ℕ, [], length, get_or}
use Rattle.name_tables.specs.Order.{IsBefore, names_of}
use Rattle.name_tables.proofs.places.search.Given as goal

abbrev pub invariant-loop-low : goal.invariant-loop-low
invariant-loop-low g l = record {
  order : l.low ≤ l.high;
  within : l.high ≤ length l.values;
  before : (k : ℕ) → k < l.low → IsBefore (get_or (names_of g.T.Named.called l.values) k []) l.name;
  here : l.high < length l.values → IsBefore (get_or (names_of g.T.Named.called l.values) l.high []) l.name → ⊥;
}

abbrev pub decreases-loop-low : goal.decreases-loop-low
decreases-loop-low g l = l.high - l.low
