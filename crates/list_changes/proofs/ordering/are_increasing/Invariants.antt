use Rattle.std.proofs.Common.{take}
use Rattle.file_lists.specs.Increasing.{AreIncreasing}
use Rattle.list_changes.proofs.ordering.are_increasing.Given as goal

abbrev pub invariant-loop-at : goal.invariant-loop-at
invariant-loop-at l = AreIncreasing (take l.at l.paths)
