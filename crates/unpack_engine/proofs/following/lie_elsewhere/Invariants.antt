use Rattle.std.proofs.Common.{◌≡◌, false, take}
use Rattle.std.specs.List.{list_any}
use Rattle.unpack_engine.specs.Followed.{lies_elsewhere}
use Rattle.unpack_engine.proofs.following.lie_elsewhere.Given as goal

abbrev pub invariant-loop-path : goal.invariant-loop-path
invariant-loop-path l = list_any (lies_elsewhere l.diversions.ways.aliases l.found) (take l.path-index l.paths) ≡ false
