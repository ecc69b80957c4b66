use Rattle.std.proofs.Common.{arith}
use Rattle.std.specs.BTreeMap.{get_by_text}
use Rattle.install_order.proofs.BearerLaws.{index_more}
use Rattle.install_order.proofs.index.Index.of.Goals as goal

pub loop-number-preserved : goal.loop-number-preserved
loop-number-preserved c = index_more c.args.trees.now (get_by_text c.loop-number.index.slots) (get_by_text c.enter_one.new.self.slots) c.loop-number.index.rows.items c.enter_one.new.self.rows.items c.loop-number.number c.index-trees-number.result (omega arith) c.index-trees-number.is c.loop-number.invariant c.in_ok-enter_one.ensures.grows c.in_ok-enter_one.ensures.entered
