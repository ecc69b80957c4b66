use Rattle.std.proofs.Common.{◌∙◌, sym, ap, subst, List, Some}
use Rattle.std.proofs.lemmas.Bool.{MatchBool-at_true, MatchBool-at_false}
use Rattle.name_tables.specs.Order.{AreInOrder}
use Rattle.name_tables.specs.Tables.{value_in}
use Rattle.name_tables.proofs.Placed.{found_there, found_nowhere}
use Rattle.name_tables.proofs.table.NameTable.get.Goals as goal

pub returns-then-is_there : goal.returns-then-is_there
returns-then-is_there g c =
    let called = g.T.Named.called in
    let xs = c.as_slice-values.result.now in
    let name = c.args.name.now in
    let order = subst (λ (l : List g.row.T.Denot). AreInOrder called l) (sym c.as_slice-values.ensures.value) c.self.invariant in
    let there = MatchBool-at_true _ _ c.if-is_there.true c.is_there.ensures in
    ap (λ (x : g.row.T.Denot). Some x) c.index-values-at.is ∙ sym (found_there called name xs _ c.index-values-at.result order c.place_of-at.ensures there.0 there.1)
    ∙ ap (λ (l : List g.row.T.Denot). value_in called l name) (c.as_slice-values.ensures.value ∙ c.self.view_is)

pub returns : goal.returns
returns g c =
    let called = g.T.Named.called in
    let xs = c.as_slice-values.result.now in
    let name = c.args.name.now in
    let order = subst (λ (l : List g.row.T.Denot). AreInOrder called l) (sym c.as_slice-values.ensures.value) c.self.invariant in
    let absent = MatchBool-at_false _ _ c.if-is_there.false c.is_there.ensures in
    sym (found_nowhere called name xs _ order c.place_of-at.ensures (λ lt e. absent (lt, e)))
    ∙ ap (λ (l : List g.row.T.Denot). value_in called l name) (c.as_slice-values.ensures.value ∙ c.self.view_is)
