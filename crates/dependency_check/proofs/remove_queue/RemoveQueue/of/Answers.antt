use Rattle.std.proofs.Common.{subst, sym}
use Rattle.dependency_sets.specs.Kept.{Queue}
use Rattle.relation_index.specs.Packages.{AreClauses}
use Rattle.dependency_check.proofs.remove_queue.RemoveQueue.of.Goals as goal

pub invariant_of-result : goal.invariant_of-result
invariant_of-result c = subst (λ (q : Queue). AreClauses c.args.packages q.clauses) (sym c.in_ok-leaving.ensures) c.in_ok-clauses.ensures
