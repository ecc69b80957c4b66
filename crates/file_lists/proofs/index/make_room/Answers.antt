use Rattle.std.proofs.Common.{map, get_or, refl}
use Rattle.file_lists.specs.Index.{spot_moved}
use Rattle.file_lists.proofs.Moved.{written_more}
use Rattle.file_lists.proofs.index.make_room.Goals as goal

pub loop-row-preserved : goal.loop-row-preserved
loop-row-preserved c = written_more (map (spot_moved c.args.at c.args.count)) c.args.rows.now.items c.deref_mut-row-items.result.now c.loop-row.row-items c.loop-row.row-index (get_or c.loop-row.row-items c.loop-row.row-index c.row-item.result) c.make_room.new.self c.row-item.result c.deref_mut-row-items.ensures.value c.loop-row-test.true c.loop-row.invariant c.loop-row.auto.row-items refl c.make_room.ensures
