use Rattle.std.proofs.Common.{◌≡◌, take}
use Rattle.trigger_watch.specs.Watch.{installed}
use Rattle.trigger_journal.proofs.asking.installed.Given as goal

abbrev pub invariant-loop-entry : goal.invariant-loop-entry
invariant-loop-entry l = l.names.items ≡ installed (take l.entry-index l.records)
