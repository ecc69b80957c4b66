use Rattle.std.proofs.Common.{◌≡◌, take}
use Rattle.trigger_chains.specs.Steps.{new_steps}
use Rattle.trigger_chains.proofs.chosen.new_steps.Given as goal

abbrev pub invariant-loop-one : goal.invariant-loop-one
invariant-loop-one l = l.found.items ≡ new_steps l.before (take l.one-index l.now)
