use Rattle.std.proofs.Common.{◌≡◌, take}
use Rattle.package_tree.proofs.other_files.OtherFiles.copy.Given as goal

abbrev pub invariant-loop-other : goal.invariant-loop-other
invariant-loop-other l = l.items.items ≡ take l.other-index l.other-items
