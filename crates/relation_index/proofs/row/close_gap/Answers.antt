use Rattle.std.proofs.Common.{map, get_or, refl}
use Rattle.relation_index.specs.Moves.{moved_down}
use Rattle.relation_index.proofs.MovingLaws.{written_more}
use Rattle.relation_index.proofs.row.close_gap.Goals as goal

pub loop-row-preserved : goal.loop-row-preserved
loop-row-preserved c = written_more (map (moved_down c.args.at)) c.args.rows.now.items c.deref_mut-row-items.result.now c.loop-row.row-items c.loop-row.row-index (get_or c.loop-row.row-items c.loop-row.row-index c.row-item.result) c.close_gap.new.self c.row-item.result c.deref_mut-row-items.ensures.value c.loop-row-test.true c.loop-row.invariant c.loop-row.auto.row-items refl c.close_gap.ensures
