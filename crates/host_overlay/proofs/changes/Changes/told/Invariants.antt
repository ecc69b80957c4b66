use Rattle.host_overlay.proofs.Told.{IsAmidTelling}
use Rattle.host_overlay.proofs.changes.Changes.told.Given as goal

abbrev pub invariant-loop-key : goal.invariant-loop-key
invariant-loop-key l = IsAmidTelling l.self.map.entries l.key-iterator l.told.items
