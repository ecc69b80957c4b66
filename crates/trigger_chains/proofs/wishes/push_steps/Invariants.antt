use Rattle.std.proofs.Common.{◌≡◌, ◌++◌, take}
use Rattle.trigger_chains.proofs.wishes.push_steps.Given as goal

abbrev pub invariant-loop-one : goal.invariant-loop-one
invariant-loop-one l = l.steps.items ≡ l.fn.steps.items ++ take l.one-index l.more
