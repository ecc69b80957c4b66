use Rattle.std.proofs.Common.{◌≡◌, ◌++◌, take}
use Rattle.in_favour_rows.specs.Entries.{dependent_entries}
use Rattle.in_favour_rows.proofs.entries.push_dependents.Given as goal

abbrev pub invariant-loop-dependent : goal.invariant-loop-dependent
invariant-loop-dependent l = l.entries.items ≡ l.fn.entries.items ++ dependent_entries l.database.records (take l.dependent-index l.dependents)
