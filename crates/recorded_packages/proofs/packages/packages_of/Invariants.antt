use Rattle.std.proofs.Common.{take}
use Rattle.std.specs.Prelude.{option_copied}
use Rattle.recorded_packages.specs.Packages.{ArePackagesIn}
use Rattle.recorded_packages.proofs.packages.packages_of.Given as goal

abbrev pub invariant-loop-entry : goal.invariant-loop-entry
invariant-loop-entry l = ArePackagesIn (option_copied l.root) (take l.entry-index l.records) l.list.items
