use Rattle.std.proofs.Common.{take}
use Rattle.dependency_sets.specs.Sets.{has}
use Rattle.install_order.proofs.TakingLaws.{IsSupplying}
use Rattle.install_order.proofs.taking.supplied.Given as goal

abbrev pub invariant-loop-clause : goal.invariant-loop-clause
invariant-loop-clause l = IsSupplying (take l.clause-index l.clauses) (has l.earlier) (has l.left) l.waiting.items
