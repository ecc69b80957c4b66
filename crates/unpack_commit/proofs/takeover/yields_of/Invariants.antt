use Rattle.std.proofs.Common.{◌≡◌, take}
use Rattle.unpack_commit.specs.Takeover.{yields_of}
use Rattle.unpack_commit.proofs.takeover.yields_of.Given as goal

abbrev pub invariant-loop-entry : goal.invariant-loop-entry
invariant-loop-entry l = l.names ≡ yields_of (take l.entry-index l.records)
