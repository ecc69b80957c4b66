use Rattle.std.proofs.Common.{◌⊎◌, ◌↔◌, take, Contains}
use Rattle.host_core.specs.Paths.{Path}
use Rattle.list_changes.specs.NewList.{IsAboveOne}
use Rattle.list_changes.proofs.parents.add_all_parents.Given as goal

abbrev pub invariant-loop-path : goal.invariant-loop-path
invariant-loop-path l = (q : Path) → Contains l.paths q ↔ (Contains l.fn.paths q ⊎ IsAboveOne q (take l.path-index l.of))
