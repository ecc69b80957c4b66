use Rattle.std.proofs.Common.{◌≡◌, map, take, true}
use Rattle.command_words.specs.Selecting.{are_selections}
use Rattle.command_words.proofs.selecting.are_selections.Given as goal

abbrev pub invariant-loop-text : goal.invariant-loop-text
invariant-loop-text l = are_selections (map (λ t. t.now) (take l.text-index l.texts)) ≡ true
