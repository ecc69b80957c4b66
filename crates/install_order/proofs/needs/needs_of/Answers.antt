use Rattle.std.proofs.Common.{arith}
use Rattle.install_order.proofs.NeedLaws.{needs_more}
use Rattle.install_order.proofs.needs.needs_of.Goals as goal

pub loop-owner-preserved : goal.loop-owner-preserved
loop-owner-preserved c = needs_more c.loop-owner.owner c.args.stage c.args.recorded.now c.args.trees.now c.index-trees-owner.result c.loop-owner.list.items _ (omega arith) c.index-trees-owner.is c.in_ok-push_needs_of.ensures c.loop-owner.invariant
