use Rattle.std.proofs.Common.{List, subst}
use Rattle.package_tree.specs.ShipMap.{paths_of}
use Rattle.package_tree.specs.declared.shipped.Shipped.{Shipped}
use Rattle.unpack_plan.specs.Lists.{IsAfter, IsUnion}
use Rattle.unpack_plan.proofs.lists.own_changes.Goals as goal

pub returns-clause-union : goal.returns-clause-union
returns-clause-union c = subst (λ (fs : List Shipped). IsUnion c.in_ok-changes.changes.listed (paths_of fs) c.in_ok-changes.changes.union) c.as_slice-files.ensures c.in_ok-changes.ensures.union

pub returns-clause-new_list : goal.returns-clause-new_list
returns-clause-new_list c = subst (λ (fs : List Shipped). IsAfter fs c.args.fresh.now c.in_ok-changes.changes.new_list) c.as_slice-files.ensures c.in_ok-changes.ensures.new_list
