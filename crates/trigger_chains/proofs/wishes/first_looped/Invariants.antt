use Rattle.std.proofs.Common.{◌≡◌, drop}
use Rattle.trigger_chains.specs.Wishes.{first_looped}
use Rattle.trigger_chains.proofs.wishes.first_looped.Given as goal

abbrev pub invariant-loop-wish : goal.invariant-loop-wish
invariant-loop-wish l = first_looped l.wishes ≡ first_looped (drop l.wish-index l.wishes)
