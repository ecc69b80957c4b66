use Rattle.std.proofs.Common.{◌≡◌, ◌++◌, drop}
use Rattle.name_patterns.specs.Marks.{moved, moved_each}
use Rattle.name_patterns.proofs.marks.moved.Given as goal

abbrev pub invariant-loop-i : goal.invariant-loop-i
invariant-loop-i l = l.behind.items ++ moved_each l.wanted (drop l.i l.marks) (drop l.i l.text) ≡ moved l.wanted l.marks l.text
