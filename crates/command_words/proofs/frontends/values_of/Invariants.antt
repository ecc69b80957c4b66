use Rattle.std.proofs.Common.{◌≡◌, drop, map, string_bytes}
use Rattle.std.specs.Prelude.{fold}
use Rattle.command_words.specs.Frontends.{begun, scanned}
use Rattle.command_words.proofs.frontends.values_of.Given as goal

abbrev pub invariant-loop-word : goal.invariant-loop-word
invariant-loop-word l = fold (scanned l.option) begun (map string_bytes l.words) ≡ fold (scanned l.option) l.scan (map string_bytes (drop l.word-index l.words))
