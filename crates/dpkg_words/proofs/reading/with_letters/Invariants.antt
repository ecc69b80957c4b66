use Rattle.std.proofs.Common.{◌≡◌, drop}
use Rattle.std.specs.Prelude.{fold}
use Rattle.dpkg_words.specs.Reading.{with_letter}
use Rattle.dpkg_words.proofs.reading.with_letters.Given as goal

abbrev pub invariant-loop-letter : goal.invariant-loop-letter
invariant-loop-letter l = fold (with_letter l.word) l.fn.reading l.letters ≡ fold (with_letter l.word) l.read (drop l.letter-index l.letters)
