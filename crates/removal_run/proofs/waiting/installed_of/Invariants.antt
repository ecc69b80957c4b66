use Rattle.std.proofs.Common.{◌≡◌, map, take}
use Rattle.removal_run.specs.Waiting.{is_installed_now}
use Rattle.removal_run.proofs.waiting.installed_of.Given as goal

abbrev pub invariant-loop-package : goal.invariant-loop-package
invariant-loop-package l = l.marks.items ≡ map (is_installed_now l.database.records) (take l.package-index l.packages)
