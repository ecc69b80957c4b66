use Rattle.std.proofs.Common.{ℕ, ◌<◌}
use Rattle.dependency_sets.specs.Sets.{has}
use Rattle.dependency_check.specs.Left.{IsUnmetAt}
use Rattle.dependency_check.proofs.left.first_unmet_of.Given as goal

abbrev pub invariant-loop-place : goal.invariant-loop-place
invariant-loop-place l = (k : ℕ) → k < l.place → IsUnmetAt l.packages l.clauses (has l.set) k → ⊥
