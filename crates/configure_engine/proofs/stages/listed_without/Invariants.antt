use Rattle.std.proofs.Common.{◌≡◌, take}
use Rattle.configure_engine.specs.Stages.{listed_without}
use Rattle.configure_engine.proofs.stages.listed_without.Given as goal

abbrev pub invariant-loop-path : goal.invariant-loop-path
invariant-loop-path l = l.items.items ≡ listed_without l.going (take l.path-index l.listed)
