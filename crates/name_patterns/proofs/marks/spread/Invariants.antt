use Rattle.std.proofs.Common.{◌≡◌, ◌++◌, false, drop}
use Rattle.name_patterns.specs.Marks.{spread}
use Rattle.name_patterns.proofs.marks.spread.Given as goal

abbrev pub invariant-loop-mark : goal.invariant-loop-mark
invariant-loop-mark l = l.behind.items ++ spread l.seen (drop l.mark-index l.marks) ≡ spread false l.marks
