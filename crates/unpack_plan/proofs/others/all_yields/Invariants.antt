use Rattle.std.proofs.Common.{◌≡◌, ◌++◌, take}
use Rattle.unpack_commit.specs.Takeover.{yields_of}
use Rattle.unpack_plan.proofs.others.all_yields.Given as goal

abbrev pub invariant-loop-other : goal.invariant-loop-other
invariant-loop-other l = l.names ≡ yields_of l.database.records ++ take l.other-index l.others
