use Rattle.std.proofs.Common.{get_or, refl}
use Rattle.package_tree.proofs.Owning.{given_more}
use Rattle.package_tree.proofs.ship_map.give_to_root.Goals as goal

pub loop-file-preserved : goal.loop-file-preserved
loop-file-preserved c = given_more c.args.files.now.items c.deref_mut-file-items.result.now c.loop-file.file-items c.loop-file.file-index (get_or c.loop-file.file-items c.loop-file.file-index c.file-item.result) c.give_to_root.new.self c.file-item.result c.deref_mut-file-items.ensures.value c.loop-file-test.true c.loop-file.invariant c.loop-file.auto.file-items refl c.give_to_root.ensures
