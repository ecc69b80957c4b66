use Rattle.std.proofs.Common.{subst, List}
use Rattle.relation_fields.specs.declared.alternative.Alternative.{Alternative}
use Rattle.relation_index.specs.Packages.{AreMeeters}
use Rattle.relation_index.proofs.clauses.clause_of.Goals as goal

pub returns-clause-meeters : goal.returns-clause-meeters
returns-clause-meeters c = subst (λ (l : List Alternative). AreMeeters c.args.packages.now l c.in_ok-meeters.meeters) c.alternatives.ensures c.in_ok-meeters.ensures
