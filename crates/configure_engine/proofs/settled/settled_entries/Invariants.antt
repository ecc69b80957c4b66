use Rattle.std.proofs.Common.{◌≡◌, filter, map, take}
use Rattle.status_records.specs.declared.entries.ConffileEntry.{ConffileEntry}
use Rattle.status_records.specs.ConffilePaths.{all_placed_by}
use Rattle.configure_engine.specs.Settled.{settled_entry, stays}
use Rattle.configure_engine.proofs.settled.settled_entries.Given as goal

abbrev pub invariant-loop-digest : goal.invariant-loop-digest
invariant-loop-digest l = l.entries ≡ all_placed_by (λ (e : ConffileEntry). e.path) (filter (stays l.entry.pending) l.entry.conffiles) (map settled_entry (take l.digest-index l.entry.pending))
