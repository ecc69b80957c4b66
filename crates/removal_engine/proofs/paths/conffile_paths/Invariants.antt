use Rattle.std.proofs.Common.{◌≡◌, take}
use Rattle.removal_engine.specs.Records.{entry_paths}
use Rattle.removal_engine.proofs.paths.conffile_paths.Given as goal

abbrev pub invariant-loop-entry : goal.invariant-loop-entry
invariant-loop-entry l = l.paths.items ≡ entry_paths (take l.entry-index l.entries)
