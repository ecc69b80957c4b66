use Rattle.std.proofs.Common.{ℕ, subst}
use Rattle.std.specs.Prelude.{IsTrue, ◌↔◌}
use Rattle.dependency_sets.specs.Sets.{has}
use Rattle.dependency_check.specs.Waiting.{Waiting, IsConfigurableNow}
use Rattle.dependency_check.proofs.WaitingLaws.{members_configurable}
use Rattle.dependency_check.proofs.configure_queue.ConfigureQueue.members.Goals as goal

pub returns : goal.returns
returns c =
    let s = c.self.inside in
    subst (λ (q : Waiting). (x : ℕ) → IsTrue (has c.members.result.now x) ↔ IsConfigurableNow q x) c.self.view_is
    (members_configurable s.packages s.configuring.clauses (has s.configuring.installed) (has s.configuring.waiting) (has c.members.result.now) c.self.invariant c.members.ensures)
