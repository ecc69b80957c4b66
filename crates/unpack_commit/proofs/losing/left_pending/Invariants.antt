use Rattle.std.proofs.Common.{◌≡◌, filter, not, take}
use Rattle.unpack_commit.specs.Takeover.{is_at}
use Rattle.unpack_commit.proofs.losing.left_pending.Given as goal

abbrev pub invariant-loop-digest : goal.invariant-loop-digest
invariant-loop-digest l = l.left ≡ filter (λ p. not (is_at l.diversions.ways l.taken l.name p.path)) (take l.digest-index l.pending)
