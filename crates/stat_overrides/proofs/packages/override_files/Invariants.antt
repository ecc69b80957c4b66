use Rattle.std.proofs.Common.{◌≡◌, ◌++◌, take, drop}
use Rattle.stat_overrides.specs.Fitting.{overridden_files}
use Rattle.stat_overrides.proofs.packages.override_files.Given as goal

abbrev pub invariant-loop-file : goal.invariant-loop-file
invariant-loop-file l = l.file-items ≡ overridden_files l.overrides (take l.file-index l.fn.files.items) ++ drop l.file-index l.fn.files.items
