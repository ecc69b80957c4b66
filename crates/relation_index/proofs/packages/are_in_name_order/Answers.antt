use Rattle.relation_index.proofs.Ordered.{told_order}
use Rattle.relation_index.proofs.packages.are_in_name_order.Goals as goal

pub returns : goal.returns
returns c = told_order c.are_in_order.result c.args.packages.now c.are_in_order.ensures
