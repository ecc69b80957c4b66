use Rattle.std.proofs.Common.{take}
use Rattle.package_tree.specs.ControlLimit.{AreNoneOver}
use Rattle.package_tree.proofs.control_limit.first_over.Given as goal

abbrev pub invariant-loop-other : goal.invariant-loop-other
invariant-loop-other l = AreNoneOver (take l.other-index l.others)
