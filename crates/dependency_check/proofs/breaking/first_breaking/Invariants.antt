use Rattle.dependency_check.proofs.Breakers.{IsNoneUpTo}
use Rattle.dependency_check.proofs.breaking.first_breaking.Given as goal

abbrev pub invariant-loop-number : goal.invariant-loop-number
invariant-loop-number l = IsNoneUpTo l.packages l.of l.breakers l.number-index
