use Rattle.std.proofs.Common.{◌≡◌, take}
use Rattle.status_db.specs.Order.{names_of}
use Rattle.trigger_watch.proofs.watching.names_of.Given as goal

abbrev pub invariant-loop-entry : goal.invariant-loop-entry
invariant-loop-entry l = l.names.items ≡ names_of (take l.entry-index l.records)
