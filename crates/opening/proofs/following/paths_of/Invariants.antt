use Rattle.std.proofs.Common.{◌≡◌, map, take}
use Rattle.opening.proofs.following.paths_of.Given as goal

abbrev pub invariant-loop-text : goal.invariant-loop-text
invariant-loop-text l = l.paths.items ≡ map (λ text. text.now) (take l.text-index l.texts)
