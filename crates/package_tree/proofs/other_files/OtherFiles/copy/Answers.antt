use Rattle.texts.proofs.Copying.{copied_so_far}
use Rattle.package_tree.proofs.other_files.OtherFiles.copy.Goals as goal

pub loop-other-preserved : goal.loop-other-preserved
loop-other-preserved c = copied_so_far c.deref-other-items.result.now c.loop-other.items.items c.push.new.self.items c.loop-other.other-index c.other-item.result c.in_ok-copy.field-0 c.other-item.is c.loop-other-test.true c.in_ok-copy.ensures c.loop-other.invariant c.in_ok-push.ensures.items
