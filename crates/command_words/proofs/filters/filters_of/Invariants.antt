use Rattle.std.proofs.Common.{◌≡◌, drop, map, string_bytes}
use Rattle.std.specs.Prelude.{fold}
use Rattle.command_words.specs.Filters.{begun, filtered}
use Rattle.command_words.proofs.filters.filters_of.Given as goal

abbrev pub invariant-loop-word : goal.invariant-loop-word
invariant-loop-word l = fold filtered begun (map string_bytes l.words) ≡ fold filtered l.found (map string_bytes (drop l.word-index l.words))
