use Rattle.std.proofs.Common.{◌≡◌, take}
use Rattle.unpack_engine.specs.Others.{yields_beside}
use Rattle.unpack_engine.proofs.committed.yields_beside.Given as goal

abbrev pub invariant-loop-other : goal.invariant-loop-other
invariant-loop-other l = l.others ≡ yields_beside l.own (take l.other-index l.names)
