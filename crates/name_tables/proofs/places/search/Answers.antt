use Rattle.std.proofs.Common.{◌<◌, ◌+◌, ◌-◌, ◌/◌, sym, subst, arith, length, List, ℕ}
use Rattle.name_tables.specs.Order.{IsBefore}
use Rattle.name_tables.proofs.Searching.{before_up_to, name_at}
use Rattle.name_tables.proofs.places.search.Goals as goal

pub loop-low-preserved-then-is_before : goal.loop-low-preserved-then-is_before
loop-low-preserved-then-is_before g c =
    let xs = c.args.values.now in
    let inv = c.loop-low.invariant in
    let lt : c.loop-low.low + (c.loop-low.high - c.loop-low.low) / 2 < length c.args.values.now = omega (arith, c.loop-low-test.true, c.loop-low.invariant.within) in
    record {
      order = omega (arith, c.loop-low-test.true);
      within = inv.within;
      before = before_up_to g.T.Named.called xs c.args.name.now _ c.requires lt
          (subst (λ (x : List ℕ). IsBefore x c.args.name.now) (sym (name_at g.T.Named.called xs _ c.index-values-middle.result lt c.index-values-middle.is)) (c.is_before.ensures.0 c.if-is_before.true));
      here = inv.here;
    }
