use Rattle.std.proofs.Common.{arith, List, take}
use Rattle.std.proofs.lemmas.List.{take_all}
use Rattle.relation_fields.specs.declared.alternative.Alternative.{Alternative}
use Rattle.relation_index.specs.Packages.{Meets}
use Rattle.dependency_check.specs.Deconfigured.{IsLost}
use Rattle.dependency_check.proofs.LeftLaws.{none_here, none_at_all}
use Rattle.dependency_check.proofs.dependents.loses_one_by.Goals as goal

pub loop-clause-preserved : goal.loop-clause-preserved
loop-clause-preserved c = none_here (λ (x : List Alternative). Meets x c.args.packages.now c.args.number) (IsLost c.args.packages.now c.args.incoming.now) c.args.clauses.now c.loop-clause.clause-index c.clause-item.result c.in_ok-lost.lost (omega arith) c.clause-item.is c.in_ok-lost.ensures c.if-lost.false c.loop-clause.invariant

pub returns : goal.returns
returns c = none_at_all (λ (x : List Alternative). Meets x c.args.packages.now c.args.number) (IsLost c.args.packages.now c.args.incoming.now) (take c.loop-clause.clause-index c.args.clauses.now) c.args.clauses.now (take_all c.loop-clause.clause-index c.args.clauses.now (omega arith)) c.loop-clause.invariant
