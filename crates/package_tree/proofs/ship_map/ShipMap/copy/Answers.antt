use Rattle.texts.proofs.Copying.{copied_so_far}
use Rattle.package_tree.proofs.ship_map.ShipMap.copy.Goals as goal

pub loop-file-preserved : goal.loop-file-preserved
loop-file-preserved c = copied_so_far c.deref-file-items.result.now c.loop-file.items.items c.push.new.self.items c.loop-file.file-index c.file-item.result c.in_ok-copy.field-0 c.file-item.is c.loop-file-test.true c.in_ok-copy.ensures c.loop-file.invariant c.in_ok-push.ensures.items
