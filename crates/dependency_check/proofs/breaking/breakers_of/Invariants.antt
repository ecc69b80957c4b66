use Rattle.std.proofs.Common.{◌≡◌, map, take}
use Rattle.dependency_check.specs.Breaking.{states_breaks}
use Rattle.dependency_check.proofs.breaking.breakers_of.Given as goal

abbrev pub invariant-loop-of : goal.invariant-loop-of
invariant-loop-of l = l.marks.items ≡ map states_breaks (take l.of-index l.packages)
