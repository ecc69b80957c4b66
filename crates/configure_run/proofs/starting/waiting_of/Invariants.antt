use Rattle.std.proofs.Common.{◌≡◌, map, take}
use Rattle.configure_run.specs.Starting.{waits}
use Rattle.configure_run.proofs.starting.waiting_of.Given as goal

abbrev pub invariant-loop-entry : goal.invariant-loop-entry
invariant-loop-entry l = l.set.items ≡ map (waits l.names) (take l.entry-index l.records)
