use Rattle.std.proofs.Common.{◌≡◌, ◌++◌, take}
use Rattle.std.specs.List.{flat_map}
use Rattle.foretold_changes.specs.Staying.{conffile_at}
use Rattle.foretold_changes.proofs.keeping.add_entries.Given as goal

abbrev pub invariant-loop-entry : goal.invariant-loop-entry
invariant-loop-entry l = l.conffiles.items ≡ l.initial.conffiles.items ++ flat_map (conffile_at l.looked l.diversions.ways l.name) (take l.entry-index l.entries)
