use Rattle.relation_index.proofs.StatingLaws.{AreClausesBelow}
use Rattle.relation_index.proofs.clauses.clauses_of.Given as goal

abbrev pub invariant-loop-owner : goal.invariant-loop-owner
invariant-loop-owner l = AreClausesBelow l.owner l.packages l.list.items
