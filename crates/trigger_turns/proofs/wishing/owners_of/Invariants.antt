use Rattle.std.proofs.Common.{◌≡◌, ◌++◌, map}
use Rattle.trigger_turns.proofs.wishing.owners_of.Given as goal

abbrev pub invariant-loop-one : goal.invariant-loop-one
invariant-loop-one l = l.names.items ++ map (λ p. p.«package») l.one-iterator.rest.items ≡ map (λ p. p.«package») l.fn.pending.items
