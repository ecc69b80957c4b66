use Rattle.std.proofs.Common.{◌≡◌, drop}
use Rattle.std.specs.List.{list_any}
use Rattle.unpack_commit.specs.Takeover.{is_at}
use Rattle.unpack_commit.proofs.losing.has_entry.Given as goal

abbrev pub invariant-loop-entry : goal.invariant-loop-entry
invariant-loop-entry l = record { rest : list_any (λ e. is_at l.diversions.ways l.taken l.name e.path) l.entries ≡ list_any (λ e. is_at l.diversions.ways l.taken l.name e.path) (drop l.entry-index l.entries) }
