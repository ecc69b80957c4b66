use Rattle.std.proofs.Common.{subst, sym}
use Rattle.dependency_sets.specs.Kept.{Queue}
use Rattle.dependency_sets.specs.Sets.{has}
use Rattle.relation_index.specs.Packages.{AreClauses}
use Rattle.dependency_check.specs.Waiting.{Waiting, IsRemovableNow}
use Rattle.dependency_check.proofs.QueueLaws.{removable_is}
use Rattle.dependency_check.proofs.remove_queue.RemoveQueue.removed.Goals as goal

pub removed-requires-clause-member : goal.removed-requires-clause-member
removed-requires-clause-member c =
    let s = c.self.inside in
    (removable_is s.packages s.leaving.clauses c.self.invariant (has s.leaving.installed) (has s.leaving.waiting) c.args.number).1 (subst (λ (q : Waiting). IsRemovableNow q c.args.number) (sym c.self.view_is) c.requires.member)

pub invariant_of-self : goal.invariant_of-self
invariant_of-self c = subst (λ (q : Queue). AreClauses c.self.inside.packages q.clauses) (sym c.removed.ensures) c.self.invariant
