use Rattle.std.proofs.Common.{◌≡◌, ◌++◌}
use Rattle.command_line.proofs.triggering.joined.Given as goal

abbrev pub invariant-loop-change : goal.invariant-loop-change
invariant-loop-change l = l.all.items ++ l.change-iterator.rest.items ≡ l.fn.changes.items ++ l.fn.more.items
