use Rattle.std.proofs.Common.{◌≡◌, ◌++◌, map, take}
use Rattle.status_records.specs.declared.entries.PendingDigest.{PendingDigest}
use Rattle.unpack_plan.proofs.conffile_paths.add_pending.Given as goal

abbrev pub invariant-loop-digest : goal.invariant-loop-digest
invariant-loop-digest l = l.paths.items ≡ l.fn.paths.items ++ map (λ (d : PendingDigest). d.path) (take l.digest-index l.pending)
