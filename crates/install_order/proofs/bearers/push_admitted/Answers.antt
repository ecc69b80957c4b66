use Rattle.std.proofs.Common.{refl, arith, get_or}
use Rattle.install_order.specs.Bearers.{admits_at}
use Rattle.install_order.proofs.BearerLaws.{pushed_more}
use Rattle.install_order.proofs.bearers.push_admitted.Goals as goal

pub loop-number-preserved : goal.loop-number-preserved
loop-number-preserved c = pushed_more (admits_at c.args.trees.now c.args.architectures.now c.args.alternative.now) c.args.numbers.now c.loop-number.number-index (get_or c.args.numbers.now c.loop-number.number-index 0) c.args.list.now c.loop-number.list _ (omega arith) refl c.in_ok-push_if_admitted.ensures c.loop-number.invariant
