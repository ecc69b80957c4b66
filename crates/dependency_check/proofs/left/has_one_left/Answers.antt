use Rattle.std.proofs.Common.{arith, List, take}
use Rattle.std.proofs.lemmas.List.{take_all}
use Rattle.relation_fields.specs.declared.alternative.Alternative.{Alternative}
use Rattle.relation_index.specs.Packages.{Meets}
use Rattle.dependency_sets.specs.Sets.{has}
use Rattle.dependency_check.specs.Queues.{IsMetBy}
use Rattle.dependency_check.proofs.LeftLaws.{none_here, none_at_all}
use Rattle.dependency_check.proofs.left.has_one_left.Goals as goal

pub loop-clause-preserved : goal.loop-clause-preserved
loop-clause-preserved c = none_here (λ (x : List Alternative). Meets x c.args.packages.now c.args.number) (λ (x : List Alternative). IsMetBy c.args.packages.now x (has c.args.staying.now) → ⊥) c.args.clauses.now c.loop-clause.clause-index c.clause-item.result c.in_ok-alone.alone (omega arith) c.clause-item.is c.in_ok-alone.ensures c.if-alone.false c.loop-clause.invariant

pub returns : goal.returns
returns c = none_at_all (λ (x : List Alternative). Meets x c.args.packages.now c.args.number) (λ (x : List Alternative). IsMetBy c.args.packages.now x (has c.args.staying.now) → ⊥) (take c.loop-clause.clause-index c.args.clauses.now) c.args.clauses.now (take_all c.loop-clause.clause-index c.args.clauses.now (omega arith)) c.loop-clause.invariant
