use Rattle.std.proofs.Common.{[], sym, subst}
use Rattle.std.specs.List.{AllByRecursion}
use Rattle.file_lists.specs.Owners.{IsListable}
use Rattle.package_tree.specs.declared.shipped.Shipped.{Shipped}
use Rattle.unpack_plan.proofs.Gathered.{mapped_more}
use Rattle.unpack_plan.proofs.Listable.{ship_listable, listable_more}
use Rattle.unpack_plan.proofs.lists.shipped_paths.Goals as goal

pub loop-file-preserved : goal.loop-file-preserved
loop-file-preserved c =
    let at = c.in_ok-at.ensures in
    record {
      paths = mapped_more (λ (f : Shipped). f.path) c.args.files.now c.loop-file.file-index c.file-item.result c.in_ok-at.field-0 [] c.loop-file.paths.items _ c.loop-file-test.true c.file-item.is c.loop-file.invariant.paths at c.in_ok-push.ensures.items;
      listable = subst (AllByRecursion IsListable) (sym c.in_ok-push.ensures.items) (listable_more c.loop-file.paths.items c.in_ok-at.field-0 c.loop-file.invariant.listable (subst IsListable (sym at) (ship_listable c.file-item.result.path c.law.ensures)));
    }
