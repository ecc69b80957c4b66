use Rattle.std.proofs.Common.{◌≡◌, ◌⊎◌, Contains, length}
use Rattle.aliases.specs.Aliases.{resolved}
use Rattle.diversions.specs.declared.entry.Diversion.{Diversion}
use Rattle.file_lists.proofs.owners.keys_of.Given as goal

abbrev pub invariant-loop-entry : goal.invariant-loop-entry
invariant-loop-entry l = record {
  first : Contains l.keys l.at;
  taken : (d : Diversion) → Contains l.diversions.ways.entries d → Contains l.entries d ⊎ (resolved l.diversions.ways.aliases d.target ≡ l.at → Contains l.keys (resolved l.diversions.ways.aliases d.path));
}

abbrev pub decreases-loop-entry : goal.decreases-loop-entry
decreases-loop-entry l = length l.entries
