use Rattle.std.proofs.Common.{◌≡◌, ◌+◌, ◌≤◌, [], length}
use Rattle.diversions.specs.Lines.{lines_in}
use Rattle.trigger_interests.proofs.Reading.{read_from}
use Rattle.trigger_interests.proofs.lines.read_declarations.Given as goal

abbrev pub invariant-loop-rest : goal.invariant-loop-rest
invariant-loop-rest l = record {
  so_far : read_from l.declarations.items l.number (lines_in l.rest) ≡ read_from [] 1 (lines_in l.text);
  short : l.number + length l.rest ≤ length l.text + 1;
}

abbrev pub decreases-loop-rest : goal.decreases-loop-rest
decreases-loop-rest l = length l.rest
