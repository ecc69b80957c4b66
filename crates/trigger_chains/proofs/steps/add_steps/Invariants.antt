use Rattle.std.proofs.Common.{◌≡◌}
use Rattle.trigger_chains.specs.Steps.{with_steps}
use Rattle.trigger_chains.proofs.steps.add_steps.Given as goal

abbrev pub invariant-loop-one : goal.invariant-loop-one
invariant-loop-one l = with_steps l.fn.steps.items l.fn.more.items ≡ with_steps l.steps.items l.one-iterator.rest.items
