use Rattle.texts.proofs.Copying.{copied_so_far}
use Rattle.package_tree.proofs.ship_paths.ShipPaths.copy.Goals as goal

pub loop-path-preserved : goal.loop-path-preserved
loop-path-preserved c = copied_so_far c.deref-path-items.result.now c.loop-path.items.items c.push.new.self.items c.loop-path.path-index c.path-item.result c.in_ok-copy.field-0 c.path-item.is c.loop-path-test.true c.in_ok-copy.ensures c.loop-path.invariant c.in_ok-push.ensures.items
