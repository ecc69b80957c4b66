use Rattle.std.proofs.Common.{◌≡◌, drop, map, string_bytes}
use Rattle.command_words.specs.Topics.{has_help_flag}
use Rattle.command_words.proofs.help.has_help_flag.Given as goal

abbrev pub invariant-loop-word : goal.invariant-loop-word
invariant-loop-word l = has_help_flag (map string_bytes l.words) ≡ has_help_flag (map string_bytes (drop l.word-index l.words))
