use Rattle.std.proofs.Common.{arith, List}
use Rattle.relation_fields.specs.declared.alternative.Alternative.{Alternative}
use Rattle.dependency_sets.specs.Sets.{has}
use Rattle.dependency_check.specs.Queues.{IsMetBy}
use Rattle.dependency_check.proofs.LeftLaws.{failing_more, failing_none}
use Rattle.dependency_check.proofs.left.first_unmet_of.Goals as goal

pub loop-place-preserved : goal.loop-place-preserved
loop-place-preserved c = failing_more (λ (clause : List Alternative). IsMetBy c.args.packages.now clause (has c.args.set.now)) c.args.clauses.now c.loop-place.place c.index-clauses-place.result c.in_ok-met.met (omega arith) c.index-clauses-place.is c.in_ok-met.ensures c.if-not-met.false c.loop-place.invariant

pub returns : goal.returns
returns c = failing_none (λ (clause : List Alternative). IsMetBy c.args.packages.now clause (has c.args.set.now)) c.args.clauses.now c.loop-place.place (omega arith) c.loop-place.invariant
