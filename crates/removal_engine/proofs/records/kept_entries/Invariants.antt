use Rattle.std.proofs.Common.{◌≡◌, take}
use Rattle.removal_engine.specs.Records.{kept_entries}
use Rattle.removal_engine.proofs.records.kept_entries.Given as goal

abbrev pub invariant-loop-entry : goal.invariant-loop-entry
invariant-loop-entry l = l.kept ≡ kept_entries (take l.entry-index l.entries)
