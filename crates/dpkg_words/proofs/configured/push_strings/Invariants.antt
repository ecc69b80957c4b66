use Rattle.std.proofs.Common.{◌≡◌, ◌++◌, map, string_bytes, take}
use Rattle.dpkg_words.proofs.configured.push_strings.Given as goal

abbrev pub invariant-loop-word : goal.invariant-loop-word
invariant-loop-word l = l.words ≡ l.fn.words ++ map string_bytes (take l.word-index l.more)
