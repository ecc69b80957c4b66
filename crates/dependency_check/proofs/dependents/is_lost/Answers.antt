use Rattle.dependency_check.proofs.DependentLaws.{lost_is}
use Rattle.dependency_check.proofs.dependents.is_lost.Goals as goal

pub returns : goal.returns
returns c = lost_is c.args.packages.now c.as_slice.result.now c.args.incoming.now c.args.departure.now c.args.clause.now c.as_slice-2.result.now c.as_slice-3.result.now c.may_be_lost-may.result c.in_ok-met.met c.requires c.as_slice.ensures.list c.as_slice-2.ensures c.as_slice-3.ensures.value c.may_be_lost-may.ensures c.if-not-may.false c.in_ok-met.ensures
