use Rattle.std.proofs.Common.{length}
use Rattle.std.specs.Prelude.{Contains}
use Rattle.package_tree.specs.Shipped.{AreInOrder}
use Rattle.package_tree.proofs.line_faults.find.Given as goal

abbrev pub invariant-loop-path : goal.invariant-loop-path
invariant-loop-path l = record {
  order : AreInOrder l.rest;
  kept : Contains l.fn.paths l.fn.path → Contains l.rest l.fn.path;
  from : Contains l.rest l.fn.path → Contains l.fn.paths l.fn.path;
}

abbrev pub decreases-loop-path : goal.decreases-loop-path
decreases-loop-path l = length l.rest
