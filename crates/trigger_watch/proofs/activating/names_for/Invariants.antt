use Rattle.std.proofs.Common.{◌≡◌, map, filter, take}
use Rattle.std.specs.Str.{bytes_eq}
use Rattle.trigger_watch.proofs.activating.names_for.Given as goal

abbrev pub invariant-loop-interest : goal.invariant-loop-interest
invariant-loop-interest l = l.names.items ≡ map (λ interest. interest.name) (filter (λ interest. bytes_eq interest.«package» l.«package») (take l.interest-index l.interests))
