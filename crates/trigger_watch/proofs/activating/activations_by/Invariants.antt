use Rattle.std.proofs.Common.{◌≡◌, take}
use Rattle.std.specs.List.{flat_map}
use Rattle.trigger_watch.specs.Activations.{activation}
use Rattle.trigger_watch.proofs.activating.activations_by.Given as goal

abbrev pub invariant-loop-package : goal.invariant-loop-package
invariant-loop-package l = l.found.items ≡ flat_map (activation l.interests) (take l.package-index l.package-items)
