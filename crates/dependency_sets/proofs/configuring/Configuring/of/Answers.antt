use Rattle.std.proofs.Common.{subst, sym, ◌∙◌, List, Bool, ℕ, length}
use Rattle.dependency_sets.specs.Kept.{IsKept}
use Rattle.dependency_sets.specs.Meets.{HasAllMet}
use Rattle.dependency_sets.specs.Sets.{has}
use Rattle.dependency_sets.specs.Striking.{Struck}
use Rattle.dependency_sets.specs.declared.clause.Clause.{Clause}
use Rattle.dependency_sets.proofs.KeptLaws.{kept_settled}
use Rattle.dependency_sets.proofs.StrikingLaws.{struck_first}
use Rattle.dependency_sets.proofs.configuring.Configuring.of.Goals as goal

pub invariant_of-result : goal.invariant_of-result
invariant_of-result c =
    let cs = c.as_slice-list.result.now in
    let n = c.in_ok-striking.striking in
    let t = c.settle.new.striking in
    let e = c.in_ok-settle.ensures in
    let made = c.in_ok-striking.ensures in
    let supply = c.args.supply.now in
    let waiting = c.args.waiting.now in
    let rows = c.in_ok-rows.rows.items in
    let struck = subst (λ (l : List Bool). Struck cs (has supply) (has waiting) l n.gone.items) (sym made.members)
    (subst (λ (l : List ℕ). Struck cs (has supply) (has waiting) waiting l) (sym made.gone) (struck_first cs (has supply) waiting (length cs))) in
    let met = subst (λ (l : List Bool). HasAllMet cs (length l) rows) (sym made.members) c.in_ok-rows.ensures in
    let kept = kept_settled cs (has supply) (has waiting) n.members.items t.members.items t.pending.items n.gone.items t.gone.items rows struck
    (λ h. e.struck (has waiting) (c.in_ok-look_at_all.ensures.moves.struck (has waiting) h)) e.answered (e.len ∙ c.in_ok-look_at_all.ensures.moves.len) e.gone e.settled met in
    subst (λ (l : List Clause). IsKept l (has c.in_ok-supply_kept.supply_kept.items) (has c.in_ok-waiting_kept.waiting_kept.items) t.members.items t.pending.items t.gone.items rows) c.as_slice-list.ensures.value
    (subst (λ (l : List Bool). IsKept cs (has l) (has c.in_ok-waiting_kept.waiting_kept.items) t.members.items t.pending.items t.gone.items rows) (sym c.in_ok-supply_kept.ensures.items)
    (subst (λ (l : List Bool). IsKept cs (has supply) (has l) t.members.items t.pending.items t.gone.items rows) (sym c.in_ok-waiting_kept.ensures.items) kept))
