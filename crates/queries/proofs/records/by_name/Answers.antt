use Rattle.std.proofs.Common.{arith}
use Rattle.queries.proofs.Ordered.{one_more}
use Rattle.queries.proofs.records.by_name.Goals as goal

pub loop-count-preserved : goal.loop-count-preserved
loop-count-preserved c = record {
  within = omega arith;
  ordered = one_more c.args.records.now c.loop-count.count c.loop-count.ordered.items c.insert.new.self.items c.place_of-place.result _ (omega (arith, c.loop-count-test.true)) c.loop-count.invariant.within c.index-records-count.is c.loop-count.invariant.ordered (rw c.as_slice.ensures.value at c.place_of-place.ensures.place) c.in_ok-insert.ensures.items;
}
