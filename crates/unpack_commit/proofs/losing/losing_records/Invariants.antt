use Rattle.std.proofs.Common.{◌≡◌, take}
use Rattle.unpack_commit.specs.Takeover.{losing_records}
use Rattle.unpack_commit.proofs.losing.losing_records.Given as goal

abbrev pub invariant-loop-entry : goal.invariant-loop-entry
invariant-loop-entry l = l.losing.items ≡ losing_records l.diversions.ways l.taken l.losers (take l.entry-index l.records)
