use Rattle.std.proofs.Common.{◌≡◌, ◌++◌, take}
use Rattle.command_line.proofs.installing.push_all.Given as goal

abbrev pub invariant-loop-word : goal.invariant-loop-word
invariant-loop-word l = l.words.items ≡ l.fn.words.items ++ take l.word-index l.more
