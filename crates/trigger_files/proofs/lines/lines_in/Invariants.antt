use Rattle.std.proofs.Common.{◌≡◌, ◌++◌, length}
use Rattle.diversions.specs.Lines.{lines_in}
use Rattle.trigger_files.proofs.lines.lines_in.Given as goal

abbrev pub invariant-loop-rest : goal.invariant-loop-rest
invariant-loop-rest l = l.lines.items ++ lines_in l.rest ≡ lines_in l.text

abbrev pub decreases-loop-rest : goal.decreases-loop-rest
decreases-loop-rest l = length l.rest
