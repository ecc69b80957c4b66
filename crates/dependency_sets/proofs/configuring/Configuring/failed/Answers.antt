use Rattle.std.proofs.Common.{◌≡◌, subst, sym, List, Bool, ℕ, [], length, ◌<◌}
use Rattle.dependency_sets.specs.Kept.{IsKept}
use Rattle.dependency_sets.specs.Meets.{HasAllMet}
use Rattle.dependency_sets.specs.Sets.{has}
use Rattle.dependency_sets.specs.Striking.{Struck, IsAnswered}
use Rattle.dependency_sets.specs.declared.clause.Clause.{Clause}
use Rattle.dependency_sets.proofs.KeptLaws.{struck_out, kept_settled}
use Rattle.dependency_sets.proofs.configuring.Configuring.failed.Goals as goal

pub settle-requires-clause-answered : goal.settle-requires-clause-answered
settle-requires-clause-answered c =
    let s = c.self.inside in
    let n = c.strike.new.self in
    let out = struck_out s.clauses.items (has s.supply.items) s.waiting.items s.striking.members.items s.striking.pending.items s.striking.gone.items s.rows.items c.args.number c.take_out.new.set.items n.members.items n.pending.items n.gone.items
    c.self.invariant c.take_out.ensures c.in_ok-strike.ensures.members c.in_ok-strike.ensures.pending c.in_ok-strike.ensures.gone in
    subst (λ (k : List Clause). (j : ℕ) → j < length k → IsAnswered k (has c.as_slice.result.now) n.members.items n.pending.items j) (sym c.as_slice-list.ensures.value)
    (subst (λ (l : List Bool). (j : ℕ) → j < length s.clauses.items → IsAnswered s.clauses.items (has l) n.members.items n.pending.items j) (sym c.as_slice.ensures.value) out.answered)

pub invariant_of-result : goal.invariant_of-result
invariant_of-result c =
    let s = c.self.inside in
    let n = c.strike.new.self in
    let t = c.settle.new.striking in
    let waiting = c.take_out.new.set.items in
    let rows = s.rows.items in
    let out = struck_out s.clauses.items (has s.supply.items) s.waiting.items s.striking.members.items s.striking.pending.items s.striking.gone.items rows c.args.number waiting n.members.items n.pending.items n.gone.items
    c.self.invariant c.take_out.ensures c.in_ok-strike.ensures.members c.in_ok-strike.ensures.pending c.in_ok-strike.ensures.gone in
    let e = c.in_ok-settle.ensures in
    let after : (cs : List Clause) (supply : List Bool) → cs ≡ s.clauses.items → supply ≡ s.supply.items
    → (Struck cs (has supply) (has waiting) n.members.items n.gone.items → Struck cs (has supply) (has waiting) t.members.items t.gone.items)
    → ((j : ℕ) → j < length cs → IsAnswered cs (has supply) t.members.items [] j) → length t.gone.items ≡ length cs
    → IsKept s.clauses.items (has s.supply.items) (has waiting) t.members.items t.pending.items t.gone.items rows =
    λ cs supply ec es moves answered gone.
    let struck = subst (λ (k : List Clause). Struck k (has supply) (has waiting) n.members.items n.gone.items) (sym ec)
    (subst (λ (l : List Bool). Struck s.clauses.items (has l) (has waiting) n.members.items n.gone.items) (sym es) out.struck) in
    let met = subst (λ (k : List Clause). HasAllMet k (length n.members.items) rows) (sym ec) out.met in
    subst (λ (k : List Clause). IsKept k (has s.supply.items) (has waiting) t.members.items t.pending.items t.gone.items rows) ec
    (subst (λ (l : List Bool). IsKept cs (has l) (has waiting) t.members.items t.pending.items t.gone.items rows) es
    (kept_settled cs (has supply) (has waiting) n.members.items t.members.items t.pending.items n.gone.items t.gone.items rows struck moves answered e.len gone e.settled met)) in
    after c.as_slice-list.result.now c.as_slice.result.now c.as_slice-list.ensures.value c.as_slice.ensures.value (e.struck (has waiting)) e.answered e.gone
