use Rattle.package_tree.proofs.Overs.{over_at}
use Rattle.package_tree.proofs.control_limit.first_over.Goals as goal

pub returns-then-is_over_file : goal.returns-then-is_over_file
returns-then-is_over_file c = over_at c.args.others.now c.loop-other.other-index c.other-item.result c.loop-other-test.true c.other-item.is c.loop-other.invariant c.if-is_over_file.ensures
