use Rattle.std.proofs.Common.{◌∙◌, sym, ap, subst, List}
use Rattle.std.proofs.lemmas.Bool.{MatchBool-at_true, MatchBool-at_false}
use Rattle.name_tables.specs.Order.{AreInOrder}
use Rattle.name_tables.specs.Tables.{put_value}
use Rattle.name_tables.proofs.Ordered.{put_order}
use Rattle.name_tables.proofs.Placed.{put_there, put_between, place_for, there_for, not_there_for}
use Rattle.name_tables.proofs.table.NameTable.put.Goals as goal

pub invariant_of-self : goal.invariant_of-self
invariant_of-self g c =
    let called = g.T.Named.called in
    let xs = c.self.inside.values.items in
    let place = place_for called xs c.as_slice.result.now (called c.args.value) c.name.result.now c.place_of-at.result c.as_slice.ensures.value c.name.ensures c.place_of-at.ensures in
    let there = there_for called xs c.as_slice-2.result.now (called c.args.value) c.name-2.result.now c.place_of-at.result c.as_slice-2.ensures.value c.name-2.ensures (MatchBool-at_true _ _ c.if-is_there.true c.is_there.ensures) in
    let same = put_there called c.args.value xs c.place_of-at.result c.self.invariant place there.0 there.1 in
    subst (λ (l : List g.row.T.Denot). AreInOrder called l) (sym same) (put_order called c.args.value xs c.self.invariant)

pub returns-then-is_there-clause-ok : goal.returns-then-is_there-clause-ok
returns-then-is_there-clause-ok g c =
    let called = g.T.Named.called in
    let xs = c.self.inside.values.items in
    let place = place_for called xs c.as_slice.result.now (called c.args.value) c.name.result.now c.place_of-at.result c.as_slice.ensures.value c.name.ensures c.place_of-at.ensures in
    let there = there_for called xs c.as_slice-2.result.now (called c.args.value) c.name-2.result.now c.place_of-at.result c.as_slice-2.ensures.value c.name-2.ensures (MatchBool-at_true _ _ c.if-is_there.true c.is_there.ensures) in
    put_there called c.args.value xs c.place_of-at.result c.self.invariant place there.0 there.1
    ∙ ap (λ (l : List g.row.T.Denot). put_value called c.args.value l) c.self.view_is

pub invariant_of-self-2 : goal.invariant_of-self-2
invariant_of-self-2 g c =
    let called = g.T.Named.called in
    let xs = c.self.inside.values.items in
    let place = place_for called xs c.as_slice.result.now (called c.args.value) c.name.result.now c.place_of-at.result c.as_slice.ensures.value c.name.ensures c.place_of-at.ensures in
    let absent = not_there_for called xs c.as_slice-2.result.now (called c.args.value) c.name-2.result.now c.place_of-at.result c.as_slice-2.ensures.value c.name-2.ensures (MatchBool-at_false _ _ c.if-is_there.false c.is_there.ensures) in
    let same = c.in_ok-insert.ensures.items ∙ put_between called c.args.value xs c.place_of-at.result c.self.invariant place absent in
    subst (λ (l : List g.row.T.Denot). AreInOrder called l) (sym same) (put_order called c.args.value xs c.self.invariant)

pub returns-clause-ok : goal.returns-clause-ok
returns-clause-ok g c =
    let called = g.T.Named.called in
    let xs = c.self.inside.values.items in
    let place = place_for called xs c.as_slice.result.now (called c.args.value) c.name.result.now c.place_of-at.result c.as_slice.ensures.value c.name.ensures c.place_of-at.ensures in
    let absent = not_there_for called xs c.as_slice-2.result.now (called c.args.value) c.name-2.result.now c.place_of-at.result c.as_slice-2.ensures.value c.name-2.ensures (MatchBool-at_false _ _ c.if-is_there.false c.is_there.ensures) in
    c.in_ok-insert.ensures.items ∙ put_between called c.args.value xs c.place_of-at.result c.self.invariant place absent
    ∙ ap (λ (l : List g.row.T.Denot). put_value called c.args.value l) c.self.view_is
