use Rattle.std.proofs.Common.{◌≡◌, map, take}
use Rattle.json_lines.proofs.cutting.copies.Given as goal

abbrev pub invariant-loop-piece : goal.invariant-loop-piece
invariant-loop-piece l = l.all ≡ map (λ t. t.now) (take l.piece-index l.pieces)
