use Rattle.std.proofs.Common.{take}
use Rattle.package_tree.specs.Conffiles.{HasNoEntry, IsOdd}
use Rattle.package_tree.proofs.conffile_lines.first_odd.Given as goal

abbrev pub invariant-loop-index : goal.invariant-loop-index
invariant-loop-index l = HasNoEntry IsOdd (take l.index l.entries)
