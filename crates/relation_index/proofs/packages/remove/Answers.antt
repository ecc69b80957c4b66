use Rattle.std.proofs.Common.{◌∙◌, List, sym, subst}
use Rattle.std.specs.BTreeMap.{get_by_text}
use Rattle.std.proofs.lemmas.Bool.{MatchBool-at_true, MatchBool-at_false}
use Rattle.name_tables.specs.Order.{IsPlaceOf, IsThere}
use Rattle.relation_index.specs.Order.{AreInOrder, name_of}
use Rattle.relation_index.specs.declared.package.Package.{Package}
use Rattle.relation_index.proofs.MovingLaws.{indexed_removed}
use Rattle.name_tables.proofs.Placed.{dropped_there, dropped_nowhere}
use Rattle.relation_index.proofs.Ordered.{in_order}
use Rattle.relation_index.proofs.packages.remove.Goals as goal

pub place_of-at-requires : goal.place_of-at-requires
place_of-at-requires c = subst AreInOrder (sym c.as_slice.ensures.value) (in_order c.args.packages.now.items c.requires.ordered)

pub returns-then-is_there-clause-packages : goal.returns-then-is_there-clause-packages
returns-then-is_there-clause-packages c =
    let ps = c.args.packages.now.items in
    let name = c.args.name.now in
    let place = subst (λ (l : List Package). IsPlaceOf name_of l name c.place_of-at.result) c.as_slice.ensures.value c.place_of-at.ensures in
    let there = subst (λ (l : List Package). IsThere name_of l name c.place_of-at.result) c.as_slice-2.ensures.value (MatchBool-at_true _ _ c.if-is_there.true c.is_there.ensures) in
    c.remove.ensures.items ∙ dropped_there name_of name ps c.place_of-at.result (in_order ps c.requires.ordered) place there.0 there.1

pub returns-then-is_there-clause-indexed : goal.returns-then-is_there-clause-indexed
returns-then-is_there-clause-indexed c =
    let ps = c.args.packages.now.items in
    let name = c.args.name.now in
    let place = subst (λ (l : List Package). IsPlaceOf name_of l name c.place_of-at.result) c.as_slice.ensures.value c.place_of-at.ensures in
    let there = subst (λ (l : List Package). IsThere name_of l name c.place_of-at.result) c.as_slice-2.ensures.value (MatchBool-at_true _ _ c.if-is_there.true c.is_there.ensures) in
    indexed_removed ps c.remove.new.self.items (get_by_text c.args.index.now.slots) (get_by_text c.close_gap.new.self.slots) c.args.index.now.rows.items c.close_gap.new.self.rows.items c.place_of-at.result name c.remove.ensures.items place there c.requires c.close_gap.ensures

pub returns-else-is_there-clause-packages : goal.returns-else-is_there-clause-packages
returns-else-is_there-clause-packages c =
    let ps = c.args.packages.now.items in
    let name = c.args.name.now in
    let place = subst (λ (l : List Package). IsPlaceOf name_of l name c.place_of-at.result) c.as_slice.ensures.value c.place_of-at.ensures in
    let absent = MatchBool-at_false _ _ c.if-is_there.false c.is_there.ensures in
    sym (dropped_nowhere name_of name ps c.place_of-at.result (in_order ps c.requires.ordered) place (λ lt e. absurd (absent (subst (λ (l : List Package). IsThere name_of l name c.place_of-at.result) (sym c.as_slice-2.ensures.value) (lt, e)))))
