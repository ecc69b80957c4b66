use Rattle.diversions.proofs.Passing.{seen_same}
use Rattle.diversions.proofs.sight.same_at.Goals as goal

pub returns : goal.returns
returns g c = record {
  looks = seen_same c.args.asked c.args.from.now c.args.to.now c.in_ok-there.there c.in_ok-taken.taken c.same_node.result _ _ _ _ c.if-not-asked.false
      c.in_ok-there.ensures.looks c.in_ok-taken.ensures.looks c.same_node.ensures.looks;
}
