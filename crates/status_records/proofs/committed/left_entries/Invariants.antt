use Rattle.std.proofs.Common.{◌≡◌, take}
use Rattle.status_records.specs.Conffiles.{left_entries}
use Rattle.status_records.proofs.committed.left_entries.Given as goal

abbrev pub invariant-loop-entry : goal.invariant-loop-entry
invariant-loop-entry g l = l.left ≡ left_entries (take l.entry-index l.entries) l.shipped l.flagged (g.S.Ships.shipped l.ships)
