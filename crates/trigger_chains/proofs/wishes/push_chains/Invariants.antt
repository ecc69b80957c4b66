use Rattle.std.proofs.Common.{◌≡◌, ◌++◌, take}
use Rattle.std.specs.List.{flat_map}
use Rattle.trigger_chains.proofs.wishes.push_chains.Given as goal

abbrev pub invariant-loop-wish : goal.invariant-loop-wish
invariant-loop-wish l = l.steps.items ≡ l.fn.steps.items ++ flat_map (λ wish. wish.chain) (take l.wish-index l.wishes)
