use Rattle.std.proofs.Common.{◌≡◌, ◌++◌, length}
use Rattle.package_tree.specs.Conffiles.{entries_of}
use Rattle.package_tree.proofs.conffile_lines.entries_of.Given as goal

abbrev pub invariant-loop-line : goal.invariant-loop-line
invariant-loop-line l = entries_of l.text ≡ l.entries.items ++ entries_of l.rest

abbrev pub decreases-loop-line : goal.decreases-loop-line
decreases-loop-line l = length l.rest
