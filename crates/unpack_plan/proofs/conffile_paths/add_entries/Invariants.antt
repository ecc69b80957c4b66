use Rattle.std.proofs.Common.{◌≡◌, ◌++◌, take}
use Rattle.unpack_plan.specs.Lists.{entry_paths}
use Rattle.unpack_plan.proofs.conffile_paths.add_entries.Given as goal

abbrev pub invariant-loop-entry : goal.invariant-loop-entry
invariant-loop-entry l = l.paths.items ≡ l.fn.paths.items ++ entry_paths (take l.entry-index l.entries)
