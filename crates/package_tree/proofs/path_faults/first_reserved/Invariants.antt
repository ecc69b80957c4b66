use Rattle.std.proofs.Common.{take}
use Rattle.package_tree.specs.PathFaults.{HasNoneReserved}
use Rattle.package_tree.proofs.path_faults.first_reserved.Given as goal

abbrev pub invariant-loop-path : goal.invariant-loop-path
invariant-loop-path l = HasNoneReserved (take l.path-index l.paths)
