use Rattle.std.proofs.Common.{subst, sym}
use Rattle.dependency_sets.specs.Kept.{Queue}
use Rattle.relation_index.specs.Packages.{AreClauses}
use Rattle.dependency_check.proofs.configure_queue.ConfigureQueue.failed.Goals as goal

pub invariant_of-result : goal.invariant_of-result
invariant_of-result c = subst (λ (q : Queue). AreClauses c.self.inside.packages q.clauses) (sym c.in_ok-left.ensures) c.self.invariant
