use Rattle.std.proofs.Common.{◌≡◌, ◌++◌}
use Rattle.trigger_chains.specs.Wishes.{mine, without}
use Rattle.trigger_chains.proofs.wishes.divide.Given as goal

abbrev pub invariant-loop-wish : goal.invariant-loop-wish
invariant-loop-wish l = (mine l.name l.fn.wishes.items ≡ l.mine.items ++ mine l.name l.wish-iterator.rest.items)
    × (without l.name l.fn.wishes.items ≡ l.others.items ++ without l.name l.wish-iterator.rest.items)
