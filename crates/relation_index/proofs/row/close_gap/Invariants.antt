use Rattle.std.proofs.Common.{◌≡◌, ◌++◌, map, take, drop}
use Rattle.relation_index.specs.Moves.{moved_down}
use Rattle.relation_index.proofs.row.close_gap.Given as goal

abbrev pub invariant-loop-row : goal.invariant-loop-row
invariant-loop-row l = l.row-items ≡ map (map (moved_down l.at)) (take l.row-index l.fn.rows.items) ++ drop l.row-index l.fn.rows.items
