use Rattle.std.proofs.Common.{◌≡◌, ℕ, ◌<◌, length, get_or, false}
use Rattle.dependency_sets.specs.Sets.{has, stays}
use Rattle.dependency_check.proofs.left.staying.Given as goal

abbrev pub invariant-loop-number : goal.invariant-loop-number
invariant-loop-number l = (length l.set.items ≡ l.number) × ((k : ℕ) → k < l.number → get_or l.set.items k false ≡ stays (has l.installed) (has l.left) k)
