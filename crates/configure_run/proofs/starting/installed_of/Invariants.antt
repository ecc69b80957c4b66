use Rattle.std.proofs.Common.{◌≡◌, map, take}
use Rattle.configure_run.specs.Starting.{satisfies}
use Rattle.configure_run.proofs.starting.installed_of.Given as goal

abbrev pub invariant-loop-entry : goal.invariant-loop-entry
invariant-loop-entry l = l.set.items ≡ map satisfies (take l.entry-index l.records)
