use Rattle.std.proofs.Common.{ℕ, ◌<◌}
use Rattle.dependency_check.specs.Unpack.{IsUnmetBeforehand}
use Rattle.dependency_check.proofs.pre_depends.first_unmet_beforehand.Given as goal

abbrev pub invariant-loop-place : goal.invariant-loop-place
invariant-loop-place l = (k : ℕ) → k < l.place → IsUnmetBeforehand l.packages l.clauses k → ⊥
