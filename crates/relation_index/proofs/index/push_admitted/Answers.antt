use Rattle.std.proofs.Common.{arith}
use Rattle.relation_index.proofs.BearingLaws.{pushed_more}
use Rattle.relation_index.proofs.index.push_admitted.Goals as goal

pub loop-number-preserved : goal.loop-number-preserved
loop-number-preserved c = pushed_more c.args.alternative.now c.args.packages.now c.args.numbers.now c.loop-number.number-index _ _ _ (omega arith) c.loop-number.invariant c.in_ok-push_if_admitted.ensures.kept c.in_ok-push_if_admitted.ensures.pushed c.in_ok-push_if_admitted.ensures.no_more
