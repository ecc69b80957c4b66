use Rattle.std.proofs.Common.{◌≡◌, ◌++◌, drop, string_bytes}
use Rattle.json_lines.specs.Diverted.{up_to_path}
use Rattle.json_lines.proofs.diverted.add_up_to_path.Given as goal

abbrev pub invariant-loop-word : goal.invariant-loop-word
invariant-loop-word l = string_bytes l.path ++ up_to_path (drop l.word-index l.words) ≡ string_bytes l.fn.path ++ up_to_path l.words
