use Rattle.std.proofs.Common.{refl, arith, get_or}
use Rattle.install_order.proofs.TakingLaws.{marked_more}
use Rattle.install_order.proofs.taking.mark_all.Goals as goal

pub loop-number-preserved : goal.loop-number-preserved
loop-number-preserved c = marked_more c.args.value c.args.numbers.now c.loop-number.number-index (get_or c.args.numbers.now c.loop-number.number-index 0) c.args.set.now.items c.loop-number.set.items _ (omega arith) refl c.mark.ensures c.loop-number.invariant
