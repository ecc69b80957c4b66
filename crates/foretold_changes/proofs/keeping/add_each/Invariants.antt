use Rattle.std.proofs.Common.{◌≡◌, ◌++◌, take}
use Rattle.std.specs.List.{flat_map}
use Rattle.foretold_changes.specs.Staying.{conffiles_of}
use Rattle.foretold_changes.proofs.keeping.add_each.Given as goal

abbrev pub invariant-loop-entry : goal.invariant-loop-entry
invariant-loop-entry l = l.conffiles.items ≡ l.initial.conffiles.items ++ flat_map (conffiles_of l.looked l.database.records l.diversions.ways) (take l.entry-index l.entries)
