use Rattle.std.proofs.Common.{◌≡◌, map, take}
use Rattle.command_line.specs.Order.{word_at}
use Rattle.command_line.proofs.ordering.words_at.Given as goal

abbrev pub invariant-loop-number : goal.invariant-loop-number
invariant-loop-number l = l.copies.items ≡ map (word_at l.words) (take l.number-index l.round)
