use Rattle.std.proofs.Common.{◌≡◌, filter, map, take}
use Rattle.json_lines.specs.Cutting.{is_piece}
use Rattle.json_lines.proofs.cutting.filled.Given as goal

abbrev pub invariant-loop-piece : goal.invariant-loop-piece
invariant-loop-piece l = l.all ≡ filter is_piece (map (λ t. t.now) (take l.piece-index l.pieces))
