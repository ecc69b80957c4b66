use Rattle.std.proofs.Common.{get_or, refl}
use Rattle.file_lists.specs.Index.{spot_moved, spot_of}
use Rattle.file_lists.proofs.Moved.{written_more}
use Rattle.file_lists.proofs.index.move_spots.Goals as goal

pub loop-spot-preserved : goal.loop-spot-preserved
loop-spot-preserved c = written_more (spot_moved c.args.at c.args.count) c.args.spots.now.items c.deref_mut-spot-items.result.now c.loop-spot.spot-items c.loop-spot.spot-index (get_or c.loop-spot.spot-items c.loop-spot.spot-index (spot_of 0 0)) c.moved.result (spot_of 0 0) c.deref_mut-spot-items.ensures.value c.loop-spot-test.true c.loop-spot.invariant c.loop-spot.auto.spot-items refl c.moved.ensures
