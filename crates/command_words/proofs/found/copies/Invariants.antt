use Rattle.std.proofs.Common.{◌≡◌, map, take}
use Rattle.command_words.proofs.found.copies.Given as goal

abbrev pub invariant-loop-text : goal.invariant-loop-text
invariant-loop-text l = l.all ≡ map (λ t. t.now) (take l.text-index l.texts)
