use Rattle.std.proofs.Common.{◌≡◌, length}
use Rattle.diversions.specs.Targets.{entry_named}
use Rattle.diversions.proofs.table.Table.entry_named.Given as goal

abbrev pub invariant-loop-entry : goal.invariant-loop-entry
invariant-loop-entry l = entry_named l.entries l.target ≡ entry_named l.self l.target

abbrev pub decreases-loop-entry : goal.decreases-loop-entry
decreases-loop-entry l = length l.entries
