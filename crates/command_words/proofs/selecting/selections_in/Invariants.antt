use Rattle.std.proofs.Common.{◌≡◌, map, take}
use Rattle.command_words.specs.Selecting.{selections_in}
use Rattle.command_words.proofs.selecting.selections_in.Given as goal

abbrev pub invariant-loop-text : goal.invariant-loop-text
invariant-loop-text l = l.all ≡ selections_in (map (λ t. t.now) (take l.text-index l.texts))
