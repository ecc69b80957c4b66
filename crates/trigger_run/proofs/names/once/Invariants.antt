use Rattle.std.proofs.Common.{◌≡◌, ◌++◌}
use Rattle.trigger_run.specs.Names.{once}
use Rattle.trigger_run.proofs.Once.{new_of}
use Rattle.trigger_run.proofs.names.once.Given as goal

abbrev pub invariant-loop-name : goal.invariant-loop-name
invariant-loop-name l = once l.fn.names.items ≡ l.list.items ++ new_of l.list.items (once l.name-iterator.rest.items)
