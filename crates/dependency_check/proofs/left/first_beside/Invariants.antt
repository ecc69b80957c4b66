use Rattle.std.proofs.Common.{ℕ, ◌<◌}
use Rattle.dependency_sets.specs.Sets.{has}
use Rattle.dependency_check.specs.Left.{DependsBeside}
use Rattle.dependency_check.proofs.left.first_beside.Given as goal

abbrev pub invariant-loop-other : goal.invariant-loop-other
invariant-loop-other l = (y : ℕ) → y < l.other → DependsBeside l.packages (has l.installed) (has l.staying) l.number y → ⊥
