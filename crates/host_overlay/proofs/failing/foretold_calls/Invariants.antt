use Rattle.std.proofs.Common.{◌≡◌, map, take}
use Rattle.host_overlay.specs.Doings.{told_for}
use Rattle.host_overlay.proofs.failing.foretold_calls.Given as goal

abbrev pub invariant-loop-failure : goal.invariant-loop-failure
invariant-loop-failure l = l.told.items ≡ map told_for (take l.failure-index l.failing)
