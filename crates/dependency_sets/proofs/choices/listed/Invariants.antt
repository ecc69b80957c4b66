use Rattle.dependency_sets.specs.Sets.{has}
use Rattle.dependency_sets.proofs.ListingLaws.{IsMarkedBelow}
use Rattle.dependency_sets.proofs.choices.listed.Given as goal

abbrev pub invariant-loop-number : goal.invariant-loop-number
invariant-loop-number l = IsMarkedBelow (has l.set) l.number l.list
