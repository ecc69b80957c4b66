use Rattle.std.proofs.Common.{◌≡◌, ◌++◌, take}
use Rattle.in_favour_rows.specs.Entries.{broken_entries}
use Rattle.in_favour_rows.proofs.entries.push_broken.Given as goal

abbrev pub invariant-loop-name : goal.invariant-loop-name
invariant-loop-name l = l.entries.items ≡ l.fn.entries.items ++ broken_entries l.database.records (take l.name-index l.names)
