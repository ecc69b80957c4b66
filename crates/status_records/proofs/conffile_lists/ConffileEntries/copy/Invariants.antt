use Rattle.std.proofs.Common.{◌≡◌, take}
use Rattle.status_records.proofs.conffile_lists.ConffileEntries.copy.Given as goal

abbrev pub invariant-loop-entry : goal.invariant-loop-entry
invariant-loop-entry l = l.items.items ≡ take l.entry-index l.self
