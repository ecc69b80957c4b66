use Rattle.std.proofs.Common.{◌≡◌, take}
use Rattle.trigger_journal.specs.Ahead.{packages_with_files}
use Rattle.trigger_journal.proofs.foreseeing.packages_with_files.Given as goal

abbrev pub invariant-loop-entry : goal.invariant-loop-entry
invariant-loop-entry l = l.names.items ≡ packages_with_files (take l.entry-index l.records)
