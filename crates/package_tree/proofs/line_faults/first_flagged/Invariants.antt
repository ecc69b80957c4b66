use Rattle.std.proofs.Common.{take}
use Rattle.std.specs.Prelude.{Contains}
use Rattle.host_core.specs.Paths.{Path}
use Rattle.package_tree.proofs.line_faults.first_flagged.Given as goal

abbrev pub invariant-loop-path : goal.invariant-loop-path
invariant-loop-path l = (q : Path) → Contains (take l.path-index l.flagged) q → Contains l.paths q → ⊥
