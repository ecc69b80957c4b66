use Rattle.std.proofs.Common.{◌≡◌, ◌++◌, filter, map, take}
use Rattle.dpkg_words.specs.Selections.{is_word}
use Rattle.dpkg_words.proofs.selections.push_words.Given as goal

abbrev pub invariant-loop-piece : goal.invariant-loop-piece
invariant-loop-piece l = l.words ≡ l.fn.words ++ filter is_word (map (λ t. t.now) (take l.piece-index l.pieces))
