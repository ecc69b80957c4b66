use Rattle.std.proofs.Common.{◌≡◌, take}
use Rattle.removal_engine.proofs.stages.copied.Given as goal

abbrev pub invariant-loop-path : goal.invariant-loop-path
invariant-loop-path l = l.items.items ≡ take l.path-index l.paths
