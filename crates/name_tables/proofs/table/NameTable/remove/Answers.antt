use Rattle.std.proofs.Common.{◌∙◌, sym, ap, subst, List}
use Rattle.std.proofs.lemmas.Bool.{MatchBool-at_true, MatchBool-at_false}
use Rattle.name_tables.specs.Order.{AreInOrder, IsPlaceOf, IsThere}
use Rattle.name_tables.specs.Tables.{drop_value}
use Rattle.name_tables.proofs.Ordered.{dropped_order}
use Rattle.name_tables.proofs.Placed.{dropped_there, dropped_nowhere}
use Rattle.name_tables.proofs.table.NameTable.remove.Goals as goal

pub invariant_of-self : goal.invariant_of-self
invariant_of-self g c =
    let called = g.T.Named.called in
    let xs = c.self.inside.values.items in
    let name = c.args.name.now in
    let place = subst (λ (l : List g.row.T.Denot). IsPlaceOf called l name c.place_of-at.result) c.as_slice.ensures.value c.place_of-at.ensures in
    let there = subst (λ (l : List g.row.T.Denot). IsThere called l name c.place_of-at.result) c.as_slice-2.ensures.value (MatchBool-at_true _ _ c.if-is_there.true c.is_there.ensures) in
    let same = c.remove.ensures.items ∙ dropped_there called name xs c.place_of-at.result c.self.invariant place there.0 there.1 in
    subst (λ (l : List g.row.T.Denot). AreInOrder called l) (sym same) (dropped_order called name xs c.self.invariant)

pub returns-then-is_there : goal.returns-then-is_there
returns-then-is_there g c =
    let called = g.T.Named.called in
    let xs = c.self.inside.values.items in
    let name = c.args.name.now in
    let place = subst (λ (l : List g.row.T.Denot). IsPlaceOf called l name c.place_of-at.result) c.as_slice.ensures.value c.place_of-at.ensures in
    let there = subst (λ (l : List g.row.T.Denot). IsThere called l name c.place_of-at.result) c.as_slice-2.ensures.value (MatchBool-at_true _ _ c.if-is_there.true c.is_there.ensures) in
    c.remove.ensures.items ∙ dropped_there called name xs c.place_of-at.result c.self.invariant place there.0 there.1
    ∙ ap (λ (l : List g.row.T.Denot). drop_value called name l) c.self.view_is

pub returns-else-is_there : goal.returns-else-is_there
returns-else-is_there g c =
    let called = g.T.Named.called in
    let xs = c.self.inside.values.items in
    let name = c.args.name.now in
    let place = subst (λ (l : List g.row.T.Denot). IsPlaceOf called l name c.place_of-at.result) c.as_slice.ensures.value c.place_of-at.ensures in
    let absent = MatchBool-at_false _ _ c.if-is_there.false c.is_there.ensures in
    sym c.self.view_is
    ∙ sym (dropped_nowhere called name xs c.place_of-at.result c.self.invariant place
    (λ lt e. absurd (absent (subst (λ (l : List g.row.T.Denot). IsThere called l name c.place_of-at.result) (sym c.as_slice-2.ensures.value) (lt, e)))))
    ∙ ap (λ (l : List g.row.T.Denot). drop_value called name l) c.self.view_is
