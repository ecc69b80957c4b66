use Rattle.std.proofs.Common.{arith}
use Rattle.install_order.proofs.NeedLaws.{stated_more}
use Rattle.install_order.proofs.needs.push_needs.Goals as goal

pub loop-one-preserved : goal.loop-one-preserved
loop-one-preserved c = stated_more c.args.stage c.args.recorded.now c.args.trees.now c.args.owner c.args.stated.now c.loop-one.one-index c.one-item.result c.args.list.now.items c.loop-one.list.items _ (omega arith) c.one-item.is c.in_ok-push_need.ensures c.loop-one.invariant
