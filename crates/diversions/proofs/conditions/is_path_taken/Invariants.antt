use Rattle.std.proofs.Common.{◌≡◌, length}
use Rattle.std.specs.List.{list_any}
use Rattle.diversions.specs.Refusals.{is_rival}
use Rattle.diversions.proofs.conditions.is_path_taken.Given as goal

abbrev pub invariant-loop-other : goal.invariant-loop-other
invariant-loop-other l = list_any (is_rival l.ways.aliases l.entry) l.entries ≡ list_any (is_rival l.ways.aliases l.entry) l.ways.entries

abbrev pub decreases-loop-other : goal.decreases-loop-other
decreases-loop-other l = length l.entries
