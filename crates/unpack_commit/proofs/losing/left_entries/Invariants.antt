use Rattle.std.proofs.Common.{◌≡◌, filter, not, take}
use Rattle.unpack_commit.specs.Takeover.{is_at}
use Rattle.unpack_commit.proofs.losing.left_entries.Given as goal

abbrev pub invariant-loop-entry : goal.invariant-loop-entry
invariant-loop-entry l = l.left ≡ filter (λ e. not (is_at l.diversions.ways l.taken l.name e.path)) (take l.entry-index l.entries)
