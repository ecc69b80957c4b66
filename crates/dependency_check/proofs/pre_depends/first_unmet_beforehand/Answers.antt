use Rattle.std.proofs.Common.{arith}
use Rattle.dependency_check.specs.Unpack.{IsMetBeforehand}
use Rattle.dependency_check.proofs.LeftLaws.{failing_more, failing_none}
use Rattle.dependency_check.proofs.pre_depends.first_unmet_beforehand.Goals as goal

pub loop-place-preserved : goal.loop-place-preserved
loop-place-preserved c = failing_more (IsMetBeforehand c.args.packages.now) c.args.clauses.now c.loop-place.place c.index-clauses-place.result c.in_ok-met.met (omega arith) c.index-clauses-place.is c.in_ok-met.ensures c.if-not-met.false c.loop-place.invariant

pub returns : goal.returns
returns c = failing_none (IsMetBeforehand c.args.packages.now) c.args.clauses.now c.loop-place.place (omega arith) c.loop-place.invariant
