use Rattle.std.proofs.Common.{◌≡◌, ◌++◌, flat_map, string_bytes, take}
use Rattle.json_lines.proofs.members.joined.Given as goal

abbrev pub invariant-loop-piece : goal.invariant-loop-piece
invariant-loop-piece l = string_bytes l.all ≡ string_bytes l.initial.all ++ flat_map (λ u. l.mark ++ u) (take l.piece-index l.rest)
