use Rattle.std.proofs.Common.{◌≡◌, take}
use Rattle.trigger_watch.specs.Activations.{activated}
use Rattle.trigger_watch.proofs.activating.activated.Given as goal

abbrev pub invariant-loop-interest : goal.invariant-loop-interest
invariant-loop-interest l = l.found.items ≡ activated l.hits (take l.interest-index l.interests)
