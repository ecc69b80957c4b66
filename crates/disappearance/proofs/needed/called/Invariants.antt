use Rattle.std.proofs.Common.{◌≡◌, map, take}
use Rattle.disappearance.specs.Needed.{is_called}
use Rattle.disappearance.proofs.needed.called.Given as goal

abbrev pub invariant-loop-package : goal.invariant-loop-package
invariant-loop-package l = l.marks.items ≡ map (is_called l.name) (take l.package-index l.packages)
