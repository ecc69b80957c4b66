use Rattle.install_order.proofs.NeedLaws.{AreNeedsBelow}
use Rattle.install_order.proofs.needs.needs_of.Given as goal

abbrev pub invariant-loop-owner : goal.invariant-loop-owner
invariant-loop-owner l = AreNeedsBelow l.owner l.stage l.recorded l.trees l.list.items
