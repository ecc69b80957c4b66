use Rattle.std.proofs.Common.{◌≡◌, drop, map, string_bytes}
use Rattle.std.specs.Prelude.{fold}
use Rattle.dpkg_words.specs.Reading.{read_word, start}
use Rattle.dpkg_words.proofs.reading.read_all.Given as goal

abbrev pub invariant-loop-word : goal.invariant-loop-word
invariant-loop-word l = fold read_word start (map string_bytes l.words) ≡ fold read_word l.reading (map string_bytes (drop l.word-index l.words))
