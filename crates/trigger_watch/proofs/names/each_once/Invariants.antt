use Rattle.std.proofs.Common.{◌≡◌, ◌++◌}
use Rattle.trigger_watch.specs.Names.{each_once}
use Rattle.trigger_watch.proofs.Once.{new_of}
use Rattle.trigger_watch.proofs.names.each_once.Given as goal

abbrev pub invariant-loop-name : goal.invariant-loop-name
invariant-loop-name l = each_once l.fn.names.items ≡ l.list.items ++ new_of l.list.items (each_once l.name-iterator.rest.items)
