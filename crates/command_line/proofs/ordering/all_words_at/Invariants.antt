use Rattle.std.proofs.Common.{◌≡◌, map, take}
use Rattle.command_line.specs.Order.{words_at}
use Rattle.command_line.proofs.ordering.all_words_at.Given as goal

abbrev pub invariant-loop-round : goal.invariant-loop-round
invariant-loop-round l = map (λ v. v.items) l.copies.items ≡ map (words_at l.words) (take l.round-index l.rounds)
