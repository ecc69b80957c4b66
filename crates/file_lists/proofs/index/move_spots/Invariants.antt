use Rattle.std.proofs.Common.{◌≡◌, ◌++◌, map, take, drop}
use Rattle.file_lists.specs.Index.{spot_moved}
use Rattle.file_lists.proofs.index.move_spots.Given as goal

abbrev pub invariant-loop-spot : goal.invariant-loop-spot
invariant-loop-spot l = l.spot-items ≡ map (spot_moved l.at l.count) (take l.spot-index l.fn.spots.items) ++ drop l.spot-index l.fn.spots.items
