use Rattle.std.proofs.Common.{◌≡◌, ◌++◌, map, take, drop}
use Rattle.file_lists.specs.Index.{spot_moved}
use Rattle.file_lists.proofs.index.make_room.Given as goal

abbrev pub invariant-loop-row : goal.invariant-loop-row
invariant-loop-row l = l.row-items ≡ map (map (spot_moved l.at l.count)) (take l.row-index l.fn.rows.items) ++ drop l.row-index l.fn.rows.items
