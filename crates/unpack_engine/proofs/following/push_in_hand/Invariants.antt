use Rattle.std.proofs.Common.{◌≡◌, ◌++◌, map, take}
use Rattle.unpack_engine.specs.Followed.{in_hand}
use Rattle.unpack_engine.proofs.following.push_in_hand.Given as goal

abbrev pub invariant-loop-path : goal.invariant-loop-path
invariant-loop-path l = l.paths.items ≡ l.fn.paths.items ++ map (in_hand l.diversions.ways.aliases) (take l.path-index l.union)
