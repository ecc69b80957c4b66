use Rattle.std.proofs.Common.{subst, sym, List, Bool, ℕ}
use Rattle.std.specs.Prelude.{IsTrue, ◌↔◌}
use Rattle.dependency_sets.specs.Kept.{Queue}
use Rattle.dependency_sets.specs.Sets.{has, IsConfigurable}
use Rattle.dependency_sets.proofs.KeptLaws.{kept_is}
use Rattle.dependency_sets.proofs.configuring.Configuring.members.Goals as goal

pub returns : goal.returns
returns c =
    let s = c.self.inside in
    subst (λ (q : Queue). (x : ℕ) → IsTrue (has c.as_slice.result.now x) ↔ IsConfigurable q.clauses (has q.installed) (has q.waiting) x) c.self.view_is
    (subst (λ (l : List Bool). (x : ℕ) → IsTrue (has l x) ↔ IsConfigurable s.clauses.items (has s.supply.items) (has s.waiting.items) x) (sym c.as_slice.ensures.value)
    (kept_is s.clauses.items (has s.supply.items) (has s.waiting.items) s.striking.members.items s.striking.pending.items s.striking.gone.items s.rows.items c.self.invariant))
