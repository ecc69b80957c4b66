use Rattle.std.proofs.Common.{◌∙◌, sym, subst, List, Contains}
use Rattle.std.specs.Prelude.{IfSome, IfNone}
use Rattle.name_tables.specs.Order.{AreInOrder}
use Rattle.name_tables.proofs.Ordered.{values_in_order}
use Rattle.file_lists.specs.declared.paths.PackageList.{PackageList}
use Rattle.file_lists.specs.Owners.{name_of, names_of}
use Rattle.file_lists.specs.Table.{IsAt}
use Rattle.file_lists.proofs.table.Table.find.Goals as goal

pub find-requires : goal.find-requires
find-requires c = subst (λ (l : List PackageList). AreInOrder name_of l) (sym c.as_slice.ensures.value) (values_in_order name_of c.self.inside.lists.items c.self.invariant.names)

pub returns-clause-some : goal.returns-clause-some
returns-clause-some c = subst (λ (l : List PackageList). IfSome c.find.result (λ at. IsAt l c.args.name.now at)) (c.as_slice.ensures.value ∙ c.self.view_is) c.find.ensures.some

pub returns-clause-none : goal.returns-clause-none
returns-clause-none c = subst (λ (l : List PackageList). IfNone c.find.result (Contains (names_of l) c.args.name.now → ⊥)) (c.as_slice.ensures.value ∙ c.self.view_is) c.find.ensures.none
