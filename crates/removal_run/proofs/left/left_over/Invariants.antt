use Rattle.std.proofs.Common.{take}
use Rattle.dependency_sets.specs.Sets.{has}
use Rattle.removal_run.specs.LeftOver.{AreDependedOn}
use Rattle.removal_run.proofs.left.left_over.Given as goal

abbrev pub invariant-loop-number : goal.invariant-loop-number
invariant-loop-number l = AreDependedOn l.queue.packages (has l.queue.installed) (has l.left.items) (take l.number-index l.number-items) l.units.items
