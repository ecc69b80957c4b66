use Rattle.std.proofs.Common.{◌≡◌, take}
use Rattle.std.specs.List.{flat_map}
use Rattle.record_changes.specs.Awaits.{settled_of}
use Rattle.record_changes.proofs.awaits.settled_awaits.Given as goal

abbrev pub invariant-loop-entry : goal.invariant-loop-entry
invariant-loop-entry l = l.found.items ≡ flat_map (λ r. settled_of l.database.records r.name r.triggers.awaited) (take l.entry-index l.entry-items)
