use Rattle.std.proofs.Common.{◌≡◌, take}
use Rattle.unpack_commit.specs.Takeover.{losers}
use Rattle.unpack_commit.proofs.takeover.losers.Given as goal

abbrev pub invariant-loop-name : goal.invariant-loop-name
invariant-loop-name l = l.names ≡ losers l.diversions.ways l.taken l.lists.lists (take l.name-index l.yields)
