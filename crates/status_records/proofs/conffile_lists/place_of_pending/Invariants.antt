use Rattle.std.proofs.Common.{◌≡◌, ◌++◌, take, drop}
use Rattle.status_records.specs.declared.entries.PendingDigest.{PendingDigest}
use Rattle.status_records.specs.ConffilePaths.{placed_by}
use Rattle.status_records.proofs.conffile_lists.place_of_pending.Given as goal

abbrev pub invariant-loop-i : goal.invariant-loop-i
invariant-loop-i l = (e : PendingDigest) → e.path ≡ l.path → placed_by (λ (x : PendingDigest). x.path) e l.pending ≡ take l.i l.pending ++ placed_by (λ (x : PendingDigest). x.path) e (drop l.i l.pending)
