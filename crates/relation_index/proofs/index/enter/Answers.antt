use Rattle.std.proofs.Common.{ℕ, List, subst, sym, refl}
use Rattle.std.specs.List.{Contains}
use Rattle.relation_index.proofs.MovingLaws.{row_read, set_kept}
use Rattle.relation_index.proofs.index.enter.Goals as goal

pub returns-clause-kept : goal.returns-clause-kept
returns-clause-kept c =
    let rows = c.args.rows.now.items in
    set_kept rows _ c.args.slot c.enter.new.self c.requires refl (λ x k. c.in_ok-enter.ensures.kept x (subst (λ (l : List ℕ). Contains l x) (sym (row_read rows c.args.slot c.index_mut.result.now c.requires c.index_mut.ensures.value)) k))
