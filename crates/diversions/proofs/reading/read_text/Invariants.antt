use Rattle.std.proofs.Common.{◌≡◌, ◌+◌, ◌≤◌, ◌++◌, length}
use Rattle.diversions.specs.Lines.{lines_in, lines_of}
use Rattle.diversions.proofs.reading.read_text.Given as goal

abbrev pub invariant-loop-rest : goal.invariant-loop-rest
invariant-loop-rest l = record {
  read : lines_in l.text ≡ lines_of l.table ++ lines_in l.rest;
  count : l.number ≡ length (lines_of l.table) + 1;
  short : l.number + length l.rest ≤ length l.text + 1;
}

abbrev pub decreases-loop-rest : goal.decreases-loop-rest
decreases-loop-rest l = length l.rest
