use Rattle.std.proofs.Common.{subst, ℕ}
use Rattle.std.specs.Prelude.{IsTrue, ◌↔◌}
use Rattle.dependency_sets.specs.Kept.{Queue}
use Rattle.dependency_sets.specs.Removal.{IsRemovable}
use Rattle.dependency_sets.specs.Sets.{has}
use Rattle.dependency_sets.proofs.RemovalLaws.{leaving_now_is}
use Rattle.dependency_sets.proofs.leaving.Leaving.members.Goals as goal

pub returns : goal.returns
returns c =
    let s = c.self.inside in
    subst (λ (q : Queue). (x : ℕ) → IsTrue (has c.members.result.now x) ↔ IsRemovable q.clauses (has q.installed) (has q.waiting) x) c.self.view_is
    (leaving_now_is s.clauses.items s.installed.items s.kept (has c.members.result.now) c.self.invariant c.members.ensures)
