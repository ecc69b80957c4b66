use Rattle.std.proofs.Common.{◌≡◌, ◌++◌, map, take, drop}
use Rattle.relation_index.specs.Moves.{moved_up}
use Rattle.relation_index.proofs.row.move_up.Given as goal

abbrev pub invariant-loop-number : goal.invariant-loop-number
invariant-loop-number l = l.number-items ≡ map (moved_up l.at l.count) (take l.number-index l.fn.numbers.items) ++ drop l.number-index l.fn.numbers.items
