use Rattle.std.proofs.Common.{◌≡◌, ◌++◌, length}
use Rattle.diversions.specs.Kept.{routes_of}
use Rattle.diversions.proofs.known.routes_of.Given as goal

abbrev pub invariant-loop-entry : goal.invariant-loop-entry
invariant-loop-entry l = l.routes.items ++ routes_of l.aliases l.entries ≡ routes_of l.aliases l.table

abbrev pub decreases-loop-entry : goal.decreases-loop-entry
decreases-loop-entry l = length l.entries
