use Rattle.std.proofs.Common.{◌≡◌, take}
use Rattle.trigger_interests.specs.Interests.{activations_by}
use Rattle.trigger_interests.proofs.interests.activations_by.Given as goal

abbrev pub invariant-loop-declaration : goal.invariant-loop-declaration
invariant-loop-declaration l = l.names.items ≡ activations_by (take l.declaration-index l.declaration-items)
