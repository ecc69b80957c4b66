use Rattle.std.proofs.Common.{◌≡◌, ◌++◌, take}
use Rattle.in_favour_rows.specs.Entries.{conflicting_entries}
use Rattle.in_favour_rows.proofs.entries.push_conflicting.Given as goal

abbrev pub invariant-loop-name : goal.invariant-loop-name
invariant-loop-name l = l.entries.items ≡ l.fn.entries.items ++ conflicting_entries l.database.records (take l.name-index l.names)
