use Rattle.std.proofs.Common.{◌≡◌, ◌++◌, map, take}
use Rattle.record_changes.specs.Pending.{pending_by}
use Rattle.record_changes.proofs.pending.push_pending.Given as goal

abbrev pub invariant-loop-name : goal.invariant-loop-name
invariant-loop-name l = l.found.items ≡ l.fn.found.items ++ map (pending_by l.«package») (take l.name-index l.names)
