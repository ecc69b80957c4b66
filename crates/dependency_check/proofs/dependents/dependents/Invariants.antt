use Rattle.dependency_check.proofs.DependentLaws.{AreDependentsBelow}
use Rattle.dependency_check.proofs.dependents.dependents.Given as goal

abbrev pub invariant-loop-number : goal.invariant-loop-number
invariant-loop-number l = AreDependentsBelow l.packages l.incoming l.number l.list.items
