use Rattle.std.proofs.Common.{◌≡◌, ◌++◌, map, take}
use Rattle.trigger_chains.specs.Wishes.{step_of}
use Rattle.trigger_chains.proofs.wishes.push_themselves.Given as goal

abbrev pub invariant-loop-wish : goal.invariant-loop-wish
invariant-loop-wish l = l.steps.items ≡ l.fn.steps.items ++ map step_of (take l.wish-index l.wishes)
