use Rattle.std.proofs.Common.{◌∙◌, sym, ap, subst}
use Rattle.package_tree.specs.PathFaults.{IsFirstReserved}
use Rattle.package_tree.specs.Shipped.{is_reserved}
use Rattle.package_tree.proofs.Firsts.{reserved_at}
use Rattle.package_tree.proofs.path_faults.first_reserved.Goals as goal

pub returns-then-is_reserved : goal.returns-then-is_reserved
returns-then-is_reserved c =
    subst (IsFirstReserved c.args.paths.now) (sym c.in_ok-copy.ensures)
    (reserved_at c.args.paths.now c.loop-path.path-index c.path-item.result c.loop-path-test.true c.path-item.is c.loop-path.invariant (sym (c.is_reserved.ensures ∙ ap is_reserved c.as_str.ensures) ∙ c.if-is_reserved.true))
