use Rattle.std.proofs.Common.{◌≡◌, ◌++◌, drop, take}
use Rattle.path_filters.specs.Filters.{before_sign}
use Rattle.path_filters.proofs.hiding.before_sign.Given as goal

abbrev pub invariant-loop-place : goal.invariant-loop-place
invariant-loop-place l = take l.place l.pattern ++ before_sign (drop l.place l.pattern) ≡ before_sign l.pattern
