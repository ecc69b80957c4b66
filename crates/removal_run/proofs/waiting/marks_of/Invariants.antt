use Rattle.std.proofs.Common.{◌≡◌, map, take}
use Rattle.removal_run.specs.Waiting.{is_named}
use Rattle.removal_run.proofs.waiting.marks_of.Given as goal

abbrev pub invariant-loop-package : goal.invariant-loop-package
invariant-loop-package l = l.marks.items ≡ map (is_named l.waiting) (take l.package-index l.packages)
