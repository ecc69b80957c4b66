use Rattle.std.proofs.Common.{◌≡◌, length}
use Rattle.diversions.specs.Targets.{entry_aimed}
use Rattle.diversions.proofs.known.found_aimed.Given as goal

abbrev pub invariant-loop-entry : goal.invariant-loop-entry
invariant-loop-entry l = entry_aimed l.aliases l.entries l.place ≡ entry_aimed l.aliases l.table l.place

abbrev pub decreases-loop-entry : goal.decreases-loop-entry
decreases-loop-entry l = length l.entries
