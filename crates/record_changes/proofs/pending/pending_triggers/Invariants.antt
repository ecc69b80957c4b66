use Rattle.std.proofs.Common.{◌≡◌, take}
use Rattle.std.specs.List.{flat_map}
use Rattle.record_changes.specs.Pending.{pending_of}
use Rattle.record_changes.proofs.pending.pending_triggers.Given as goal

abbrev pub invariant-loop-entry : goal.invariant-loop-entry
invariant-loop-entry l = l.found.items ≡ flat_map pending_of (take l.entry-index l.entry-items)
