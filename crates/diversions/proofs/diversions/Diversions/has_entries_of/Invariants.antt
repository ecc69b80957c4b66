use Rattle.std.proofs.Common.{◌≡◌, length}
use Rattle.diversions.proofs.diversions.Diversions.has_entries_of.Given as goal

abbrev pub invariant-loop-entry : goal.invariant-loop-entry
invariant-loop-entry l = record {
  same : l.entries ≡ l.left → l.fn.self.ways.entries ≡ l.fn.other.ways.entries;
  all : l.fn.self.ways.entries ≡ l.fn.other.ways.entries → l.entries ≡ l.left;
}

abbrev pub decreases-loop-entry : goal.decreases-loop-entry
decreases-loop-entry l = length l.entries
