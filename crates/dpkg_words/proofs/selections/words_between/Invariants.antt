use Rattle.std.proofs.Common.{◌≡◌, filter, flat_map, map, take}
use Rattle.dpkg_words.specs.Selections.{between, is_word}
use Rattle.dpkg_words.proofs.selections.words_between.Given as goal

abbrev pub invariant-loop-piece : goal.invariant-loop-piece
invariant-loop-piece l = l.words ≡ flat_map (λ piece. filter is_word (between 9 piece)) (map (λ t. t.now) (take l.piece-index l.pieces))
