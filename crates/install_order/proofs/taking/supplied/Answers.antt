use Rattle.std.proofs.Common.{arith, subst, List}
use Rattle.std.proofs.lemmas.List.{take_all}
use Rattle.dependency_sets.specs.Sets.{has}
use Rattle.dependency_sets.specs.declared.clause.Clause.{Clause}
use Rattle.install_order.proofs.TakingLaws.{IsSupplying, supplying_more}
use Rattle.install_order.proofs.taking.supplied.Goals as goal

pub loop-clause-preserved : goal.loop-clause-preserved
loop-clause-preserved c = supplying_more c.args.clauses.now (has c.args.earlier.now) (has c.args.left.now) c.loop-clause.clause-index c.clause-item.result c.loop-clause.waiting.items _ (omega arith) c.clause-item.is c.take_out_unmet.ensures c.loop-clause.invariant

pub returns : goal.returns
returns c = subst (λ (l : List Clause). IsSupplying l (has c.args.earlier.now) (has c.args.left.now) c.loop-clause.waiting.items) (take_all c.loop-clause.clause-index c.args.clauses.now (omega arith)) c.loop-clause.invariant
