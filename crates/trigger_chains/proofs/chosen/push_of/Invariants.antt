use Rattle.std.proofs.Common.{◌≡◌, ◌++◌, take}
use Rattle.trigger_chains.specs.Steps.{of_package}
use Rattle.trigger_chains.proofs.chosen.push_of.Given as goal

abbrev pub invariant-loop-one : goal.invariant-loop-one
invariant-loop-one l = l.found.items ≡ l.fn.found.items ++ of_package (take l.one-index l.steps) l.name
