use Rattle.std.proofs.Common.{◌≡◌, ◌+◌, ◌≤◌, [], length}
use Rattle.diversions.specs.Lines.{lines_in}
use Rattle.stat_overrides.specs.Reading.{table_from}
use Rattle.stat_overrides.proofs.table.table_in.Given as goal

abbrev pub invariant-loop-rest : goal.invariant-loop-rest
invariant-loop-rest l = record {
  so_far : table_from (lines_in l.rest) l.number l.table ≡ table_from (lines_in l.text) 1 [];
  short : l.number + length l.rest ≤ length l.text + 1;
}

abbrev pub decreases-loop-rest : goal.decreases-loop-rest
decreases-loop-rest l = length l.rest
