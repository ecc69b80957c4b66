use Rattle.std.proofs.Common.{◌≡◌, take}
use Rattle.status_records.proofs.conffile_lists.PendingDigests.copy.Given as goal

abbrev pub invariant-loop-digest : goal.invariant-loop-digest
invariant-loop-digest l = l.items.items ≡ take l.digest-index l.self
