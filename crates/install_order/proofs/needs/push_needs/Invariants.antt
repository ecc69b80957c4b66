use Rattle.std.proofs.Common.{take}
use Rattle.install_order.specs.Clauses.{HasStated}
use Rattle.install_order.proofs.needs.push_needs.Given as goal

abbrev pub invariant-loop-one : goal.invariant-loop-one
invariant-loop-one l = HasStated l.stage l.recorded l.trees l.owner (take l.one-index l.stated) l.initial.list.items l.list.items
