use Rattle.std.proofs.Common.{◌≡◌, map, take}
use Rattle.status_records.specs.declared.entries.ConffileEntry.{ConffileEntry}
use Rattle.status_records.specs.ConffilePaths.{all_placed_by}
use Rattle.status_records.specs.Conffiles.{shipped_entry, left_entries}
use Rattle.status_records.proofs.committed.committed_entries.Given as goal

abbrev pub invariant-loop-digest : goal.invariant-loop-digest
invariant-loop-digest g l =
    l.committed ≡ all_placed_by (λ (e : ConffileEntry). e.path) (left_entries l.entries l.shipped l.flagged (g.S.Ships.shipped l.ships)) (map (shipped_entry l.entries) (take l.digest-index l.shipped))
