use Rattle.std.proofs.Common.{◌≡◌, length}
use Rattle.std.specs.Slice.Iter.{iter_rest}
use Rattle.diversions.specs.Kept.{routes_of}
use Rattle.diversions.specs.Ways.{entry_at}
use Rattle.diversions.proofs.known.known_at.Given as goal

abbrev pub invariant-loop-entry : goal.invariant-loop-entry
invariant-loop-entry l = record {
  left : iter_rest l.left ≡ routes_of l.fn.ways.aliases l.entries;
  same : entry_at l.fn.ways.aliases l.entries l.place ≡ entry_at l.fn.ways.aliases l.fn.ways.entries l.place;
}

abbrev pub decreases-loop-entry : goal.decreases-loop-entry
decreases-loop-entry l = length l.entries
