use Rattle.dependency_check.proofs.UnpackLaws.{beforehand_is}
use Rattle.dependency_check.proofs.pre_depends.is_met_beforehand.Goals as goal

pub returns : goal.returns
returns c = beforehand_is c.args.packages.now c.as_slice.result.now c.args.clause.now c.in_ok-meeters.meeters c.as_slice-2.result.now c.one_meets_beforehand-met.result c.in_ok-meeters.ensures c.as_slice.ensures.list c.as_slice-2.ensures c.one_meets_beforehand-met.ensures
