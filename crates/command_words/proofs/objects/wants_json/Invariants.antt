use Rattle.std.proofs.Common.{◌≡◌, drop, map, string_bytes}
use Rattle.command_words.specs.Objects.{wants_json}
use Rattle.command_words.proofs.objects.wants_json.Given as goal

abbrev pub invariant-loop-word : goal.invariant-loop-word
invariant-loop-word l = wants_json (map string_bytes l.words) ≡ wants_json (map string_bytes (drop l.word-index l.words))
