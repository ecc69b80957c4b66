use Rattle.std.proofs.Common.{ℕ, subst}
use Rattle.std.specs.Prelude.{IsTrue, ◌↔◌}
use Rattle.dependency_sets.specs.Sets.{has}
use Rattle.dependency_check.specs.Waiting.{Waiting, IsRemovableNow}
use Rattle.dependency_check.proofs.WaitingLaws.{members_removable}
use Rattle.dependency_check.proofs.remove_queue.RemoveQueue.members.Goals as goal

pub returns : goal.returns
returns c =
    let s = c.self.inside in
    subst (λ (q : Waiting). (x : ℕ) → IsTrue (has c.members.result.now x) ↔ IsRemovableNow q x) c.self.view_is
    (members_removable s.packages s.leaving.clauses (has s.leaving.installed) (has s.leaving.waiting) (has c.members.result.now) c.self.invariant c.members.ensures)
