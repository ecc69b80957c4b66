use Rattle.std.proofs.Common.{◌≡◌, take}
use Rattle.trigger_chains.proofs.steps.Chain.copy.Given as goal

abbrev pub invariant-loop-one : goal.invariant-loop-one
invariant-loop-one l = l.steps.items ≡ take l.one-index l.one-items
