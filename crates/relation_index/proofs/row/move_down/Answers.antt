use Rattle.std.proofs.Common.{get_or, refl}
use Rattle.relation_index.specs.Moves.{moved_down}
use Rattle.relation_index.proofs.MovingLaws.{written_more}
use Rattle.relation_index.proofs.row.move_down.Goals as goal

pub loop-number-preserved : goal.loop-number-preserved
loop-number-preserved c = written_more (moved_down c.args.at) c.args.numbers.now.items c.deref_mut-number-items.result.now c.loop-number.number-items c.loop-number.number-index (get_or c.loop-number.number-items c.loop-number.number-index 0) c.moved_down.result 0 c.deref_mut-number-items.ensures.value c.loop-number-test.true c.loop-number.invariant c.loop-number.auto.number-items refl c.moved_down.ensures
