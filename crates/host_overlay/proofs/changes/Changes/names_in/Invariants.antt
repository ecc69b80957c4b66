use Rattle.host_overlay.proofs.Listed.{IsAmidNames}
use Rattle.host_overlay.proofs.changes.Changes.names_in.Given as goal

abbrev pub invariant-loop-key : goal.invariant-loop-key
invariant-loop-key l = IsAmidNames l.self.map.entries l.key-iterator l.path l.names
