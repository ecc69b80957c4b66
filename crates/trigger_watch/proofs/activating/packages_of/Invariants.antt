use Rattle.std.proofs.Common.{◌≡◌, map, take}
use Rattle.trigger_watch.proofs.activating.packages_of.Given as goal

abbrev pub invariant-loop-interest : goal.invariant-loop-interest
invariant-loop-interest l = l.packages.items ≡ map (λ interest. interest.«package») (take l.interest-index l.interests)
