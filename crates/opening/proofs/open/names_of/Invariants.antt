use Rattle.std.proofs.Common.{◌≡◌, take}
use Rattle.opening.specs.Parts.{names_of}
use Rattle.opening.proofs.open.names_of.Given as goal

abbrev pub invariant-loop-entry : goal.invariant-loop-entry
invariant-loop-entry l = l.names ≡ names_of (take l.entry-index l.records)
