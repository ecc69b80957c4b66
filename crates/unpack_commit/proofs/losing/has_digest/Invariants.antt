use Rattle.std.proofs.Common.{◌≡◌, drop}
use Rattle.std.specs.List.{list_any}
use Rattle.unpack_commit.specs.Takeover.{is_at}
use Rattle.unpack_commit.proofs.losing.has_digest.Given as goal

abbrev pub invariant-loop-digest : goal.invariant-loop-digest
invariant-loop-digest l = record { rest : list_any (λ p. is_at l.diversions.ways l.taken l.name p.path) l.pending ≡ list_any (λ p. is_at l.diversions.ways l.taken l.name p.path) (drop l.digest-index l.pending) }
