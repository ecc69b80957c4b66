use Rattle.std.proofs.Common.{◌≡◌, map, take}
use Rattle.disappearance.specs.Needed.{is_supplied}
use Rattle.disappearance.proofs.needed.supplied.Given as goal

abbrev pub invariant-loop-package : goal.invariant-loop-package
invariant-loop-package l = l.marks.items ≡ map (is_supplied l.incoming) (take l.package-index l.packages)
