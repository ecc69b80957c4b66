use Rattle.std.proofs.Common.{List, sym, subst}
use Rattle.std.proofs.lemmas.Bool.{MatchBool-at_true, MatchBool-at_false}
use Rattle.name_tables.specs.Order.{IsPlaceOf, IsThere}
use Rattle.relation_index.specs.Order.{AreInOrder, name_of}
use Rattle.relation_index.specs.declared.package.Package.{Package}
use Rattle.relation_index.proofs.Ordered.{in_order}
use Rattle.relation_index.proofs.packages.put.Goals as goal

pub place_of-at-requires : goal.place_of-at-requires
place_of-at-requires c = subst AreInOrder (sym c.as_slice.ensures.value) (in_order c.args.packages.now.items c.requires.ordered)

pub replace-requires-clause-place : goal.replace-requires-clause-place
replace-requires-clause-place c = subst (λ (l : List Package). IsPlaceOf name_of l c.args.entry.name c.place_of-at.result) c.as_slice.ensures.value c.place_of-at.ensures

pub replace-requires-clause-there : goal.replace-requires-clause-there
replace-requires-clause-there c = subst (λ (l : List Package). IsThere name_of l c.args.entry.name c.place_of-at.result) c.as_slice-2.ensures.value (MatchBool-at_true _ _ c.if-is_there.true c.is_there.ensures)

pub insert-requires-clause-place : goal.insert-requires-clause-place
insert-requires-clause-place c = subst (λ (l : List Package). IsPlaceOf name_of l c.args.entry.name c.place_of-at.result) c.as_slice.ensures.value c.place_of-at.ensures

pub insert-requires-clause-absent : goal.insert-requires-clause-absent
insert-requires-clause-absent c = λ there. MatchBool-at_false _ _ c.if-is_there.false c.is_there.ensures (subst (λ (l : List Package). IsThere name_of l c.args.entry.name c.place_of-at.result) (sym c.as_slice-2.ensures.value) there)
