use Rattle.std.proofs.Common.{◌≡◌, ◌++◌, take, drop}
use Rattle.status_records.specs.declared.entries.ConffileEntry.{ConffileEntry}
use Rattle.status_records.specs.ConffilePaths.{placed_by}
use Rattle.status_records.proofs.conffile_lists.place_of.Given as goal

abbrev pub invariant-loop-i : goal.invariant-loop-i
invariant-loop-i l = (e : ConffileEntry) → e.path ≡ l.path → placed_by (λ (x : ConffileEntry). x.path) e l.entries ≡ take l.i l.entries ++ placed_by (λ (x : ConffileEntry). x.path) e (drop l.i l.entries)
