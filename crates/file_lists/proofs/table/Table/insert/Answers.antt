use Rattle.std.proofs.Common.{◌≤◌, ◌∙◌, sym, ap, subst, List, Contains, length}
use Rattle.std.specs.List.{insert}
use Rattle.name_tables.specs.Order.{AreInOrder, IsPlaceOf}
use Rattle.name_tables.proofs.Ordered.{values_in_order}
use Rattle.file_lists.specs.declared.paths.PackageList.{PackageList}
use Rattle.file_lists.specs.Owners.{AreLists, name_of, names_of}
use Rattle.file_lists.specs.Writing.{package_list, with_list}
use Rattle.file_lists.proofs.Changed.{with_inserted, with_lists}
use Rattle.file_lists.proofs.Entries.{at_contains}
use Rattle.file_lists.proofs.table.Table.insert.Goals as goal

pub place_of-at-requires : goal.place_of-at-requires
place_of-at-requires c = subst (λ (l : List PackageList). AreInOrder name_of l) (sym c.as_slice.ensures.value) (values_in_order name_of c.self.inside.lists.items c.self.invariant.names)

pub invariant_of-self-2 : goal.invariant_of-self-2
invariant_of-self-2 c =
    let lists = c.self.inside.lists.items in
    let place = subst (λ (l : List PackageList). IsPlaceOf name_of l c.args.name c.place_of-at.result) c.as_slice.ensures.value c.place_of-at.ensures in
    let other = subst (λ (l : List PackageList). Contains (names_of l) c.args.name → ⊥) (sym c.self.view_is) c.requires.other in
    let same = with_inserted lists c.args.name c.args.paths c.place_of-at.result place (λ there. other (at_contains lists c.args.name c.place_of-at.result there)) in
    subst AreLists (sym (c.in_ok-insert.ensures.items ∙ same)) (with_lists lists c.args.name c.args.paths c.self.invariant c.requires.paths)

pub returns-clause-ok : goal.returns-clause-ok
returns-clause-ok c =
    let lists = c.self.inside.lists.items in
    let place = subst (λ (l : List PackageList). IsPlaceOf name_of l c.args.name c.place_of-at.result) c.as_slice.ensures.value c.place_of-at.ensures in
    let other = subst (λ (l : List PackageList). Contains (names_of l) c.args.name → ⊥) (sym c.self.view_is) c.requires.other in
    let same = with_inserted lists c.args.name c.args.paths c.place_of-at.result place (λ there. other (at_contains lists c.args.name c.place_of-at.result there)) in
    c.in_ok-insert.ensures.items ∙ same ∙ ap (with_list c.args.name c.args.paths) c.self.view_is

pub returns-clause-place : goal.returns-clause-place
returns-clause-place c =
    let place = subst (λ (l : List PackageList). IsPlaceOf name_of l c.args.name c.place_of-at.result) c.as_slice.ensures.value c.place_of-at.ensures in
    subst (λ (l : List PackageList). c.place_of-at.result ≤ length l) c.self.view_is place.within

pub returns-clause-there : goal.returns-clause-there
returns-clause-there c = c.in_ok-insert.ensures.items ∙ ap (λ (l : List PackageList). insert l c.place_of-at.result (package_list c.args.name c.args.paths)) c.self.view_is
