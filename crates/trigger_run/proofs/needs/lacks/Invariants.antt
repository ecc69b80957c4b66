use Rattle.std.proofs.Common.{ℕ, ◌<◌}
use Rattle.dependency_sets.specs.Sets.{has}
use Rattle.trigger_run.specs.Needs.{LacksAt}
use Rattle.trigger_run.proofs.needs.lacks.Given as goal

abbrev pub invariant-loop-number : goal.invariant-loop-number
invariant-loop-number l = (x : ℕ) → x < l.number → LacksAt l.packages (has l.set) l.name x → ⊥
