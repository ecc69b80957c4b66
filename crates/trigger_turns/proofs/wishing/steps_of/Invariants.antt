use Rattle.std.proofs.Common.{◌≡◌, ◌++◌, map}
use Rattle.trigger_turns.specs.Turns.{step_by}
use Rattle.trigger_turns.proofs.wishing.steps_of.Given as goal

abbrev pub invariant-loop-one : goal.invariant-loop-one
invariant-loop-one l = l.steps.items ++ map step_by l.one-iterator.rest.items ≡ map step_by l.fn.pending.items
