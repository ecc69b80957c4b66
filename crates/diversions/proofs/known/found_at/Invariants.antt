use Rattle.std.proofs.Common.{◌≡◌, length}
use Rattle.diversions.specs.Ways.{entry_at}
use Rattle.diversions.proofs.known.found_at.Given as goal

abbrev pub invariant-loop-entry : goal.invariant-loop-entry
invariant-loop-entry l = entry_at l.aliases l.entries l.place ≡ entry_at l.aliases l.table l.place

abbrev pub decreases-loop-entry : goal.decreases-loop-entry
decreases-loop-entry l = length l.entries
