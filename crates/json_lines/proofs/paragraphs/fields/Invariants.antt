use Rattle.std.proofs.Common.{◌≡◌, ◌++◌, length}
use Rattle.json_lines.specs.Paragraphs.{fields}
use Rattle.json_lines.proofs.paragraphs.fields.Given as goal

abbrev pub invariant-loop-left : goal.invariant-loop-left
invariant-loop-left l = l.members ++ fields l.left ≡ fields l.lines

abbrev pub decreases-loop-left : goal.decreases-loop-left
decreases-loop-left l = length l.left
