use Rattle.std.proofs.Common.{arith}
use Rattle.std.specs.BTreeMap.{get_by_text}
use Rattle.relation_index.proofs.BearingLaws.{index_more}
use Rattle.relation_index.proofs.index.Index.of.Goals as goal

pub loop-number-preserved : goal.loop-number-preserved
loop-number-preserved c = index_more c.args.packages.now (get_by_text c.loop-number.index.slots) (get_by_text c.enter_package.new.self.slots) c.loop-number.index.rows.items c.enter_package.new.self.rows.items c.loop-number.number c.index-packages-number.result (omega arith) c.index-packages-number.is c.loop-number.invariant c.in_ok-enter_package.ensures.grows c.in_ok-enter_package.ensures.entered
