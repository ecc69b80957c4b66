use Rattle.std.proofs.Common.{◌≡◌, ◌++◌, take}
use Rattle.std.specs.List.{flat_map}
use Rattle.std.specs.Prelude.{option_copied}
use Rattle.record_formats.specs.Values.{piece_text}
use Rattle.record_formats.proofs.formatted.add_pieces.Given as goal

abbrev pub invariant-loop-piece : goal.invariant-loop-piece
invariant-loop-piece l = l.text.items ≡ l.initial.text.items ++ flat_map (piece_text (option_copied l.root) l.entry l.fields) (take l.piece-index l.pieces)
