use Rattle.std.proofs.Common.{get_or, refl}
use Rattle.stat_overrides.proofs.Giving.{given_more}
use Rattle.stat_overrides.proofs.packages.override_files.Goals as goal

pub loop-file-preserved : goal.loop-file-preserved
loop-file-preserved c = given_more c.args.overrides.now c.args.files.now.items c.deref_mut-file-items.result.now c.loop-file.file-items c.loop-file.file-index (get_or c.loop-file.file-items c.loop-file.file-index c.file-item.result) c.give.new.file c.file-item.result c.deref_mut-file-items.ensures.value c.loop-file-test.true c.loop-file.invariant c.loop-file.auto.file-items refl c.give.ensures
