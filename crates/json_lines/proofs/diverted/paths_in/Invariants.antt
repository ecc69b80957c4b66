use Rattle.std.proofs.Common.{◌≡◌, ◌++◌, length}
use Rattle.json_lines.specs.Diverted.{paths_in}
use Rattle.json_lines.proofs.diverted.paths_in.Given as goal

abbrev pub invariant-loop-left : goal.invariant-loop-left
invariant-loop-left l = l.paths ++ paths_in l.left ≡ paths_in l.words

abbrev pub decreases-loop-left : goal.decreases-loop-left
decreases-loop-left l = length l.left
