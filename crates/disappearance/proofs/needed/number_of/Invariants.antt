use Rattle.std.proofs.Common.{ℕ, ◌<◌}
use Rattle.disappearance.specs.Needed.{HasNumber}
use Rattle.disappearance.proofs.needed.number_of.Given as goal

abbrev pub invariant-loop-number : goal.invariant-loop-number
invariant-loop-number l = (y : ℕ) → y < l.number → HasNumber l.packages l.name y → ⊥
