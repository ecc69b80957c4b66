use Rattle.std.proofs.Common.{◌≡◌, map, take}
use Rattle.trigger_run.specs.Needs.{satisfies}
use Rattle.trigger_run.proofs.needs.supply_of.Given as goal

abbrev pub invariant-loop-entry : goal.invariant-loop-entry
invariant-loop-entry l = l.set.items ≡ map satisfies (take l.entry-index l.records)
