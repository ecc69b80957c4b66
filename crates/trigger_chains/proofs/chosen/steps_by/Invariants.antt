use Rattle.std.proofs.Common.{◌≡◌, take}
use Rattle.trigger_chains.specs.Steps.{steps_by}
use Rattle.trigger_chains.proofs.chosen.steps_by.Given as goal

abbrev pub invariant-loop-name : goal.invariant-loop-name
invariant-loop-name l = l.found.items ≡ steps_by (take l.name-index l.names) l.steps
