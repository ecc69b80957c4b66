use Rattle.install_order.proofs.NeedLaws.{already_is}
use Rattle.install_order.proofs.met_already.is_met_already.Goals as goal

pub returns : goal.returns
returns c = already_is c.args.stage c.args.recorded.now c.as_slice.result.now c.args.clause.now c.in_ok-meeters.meeters c.as_slice-2.result.now c.one_is_enough-met.result c.in_ok-meeters.ensures c.as_slice.ensures.list c.as_slice-2.ensures c.one_is_enough-met.ensures
