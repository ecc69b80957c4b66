use Rattle.std.proofs.Common.{◌≡◌}
use Rattle.trigger_chains.specs.Wishes.{with_wishes}
use Rattle.trigger_chains.proofs.wishes.add_wishes.Given as goal

abbrev pub invariant-loop-one : goal.invariant-loop-one
invariant-loop-one l = with_wishes l.chain l.fn.wishes.items l.fn.steps.items ≡ with_wishes l.chain l.wishes.items l.one-iterator.rest.items
