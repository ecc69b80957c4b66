use Rattle.std.proofs.Common.{◌≡◌, map, take}
use Rattle.status_records.specs.declared.entries.PendingDigest.{PendingDigest}
use Rattle.configure_engine.proofs.waiting.pending_paths.Given as goal

abbrev pub invariant-loop-digest : goal.invariant-loop-digest
invariant-loop-digest l = l.paths.items ≡ map (λ (p : PendingDigest). p.path) (take l.digest-index l.entry.pending)
