use Rattle.std.proofs.Common.{subst}
use Rattle.dependency_sets.specs.Sets.{has}
use Rattle.dependency_check.specs.Waiting.{Waiting, IsNextOfRemovable}
use Rattle.dependency_check.proofs.WaitingLaws.{next_removable}
use Rattle.dependency_check.proofs.remove_queue.RemoveQueue.next.Goals as goal

pub returns : goal.returns
returns c =
    let s = c.self.inside in
    subst (λ (q : Waiting). IsNextOfRemovable q c.in_ok-next.next) c.self.view_is
    (next_removable s.packages s.leaving.clauses c.clauses-clauses.result.now s.leaving.installed c.supply-supply.result.now (has s.leaving.waiting) (has c.members-members.result.now) c.in_ok-next.next c.self.invariant c.clauses-clauses.ensures c.supply-supply.ensures c.members-members.ensures c.in_ok-next.ensures)
