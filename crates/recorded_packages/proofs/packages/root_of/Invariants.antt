use Rattle.std.proofs.Common.{◌≡◌, drop}
use Rattle.recorded_packages.specs.Packages.{root_architecture}
use Rattle.recorded_packages.proofs.packages.root_of.Given as goal

abbrev pub invariant-loop-entry : goal.invariant-loop-entry
invariant-loop-entry l = root_architecture l.records ≡ root_architecture (drop l.entry-index l.records)
