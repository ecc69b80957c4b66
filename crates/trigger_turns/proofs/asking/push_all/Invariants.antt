use Rattle.std.proofs.Common.{◌≡◌, ◌≤◌, ◌+◌, ◌++◌, length, vec_capacity, vec_len}
use Rattle.trigger_turns.proofs.asking.push_all.Given as goal

abbrev pub invariant-loop-unit : goal.invariant-loop-unit
invariant-loop-unit l = (l.units.items ++ l.unit-iterator.rest.items ≡ l.fn.units.items ++ l.fn.more.items) × (vec_len l.units + length l.unit-iterator.rest.items ≤ vec_capacity l.units)
