use Rattle.std.proofs.Common.{sym, subst, List, Contains, get_or}
use Rattle.file_lists.specs.declared.spot.Spot.{Spot}
use Rattle.file_lists.specs.Index.{spot_of}
use Rattle.file_lists.proofs.Increasing.{get_or_any}
use Rattle.file_lists.proofs.Gathering.{inserted, inserted_kept}
use Rattle.file_lists.proofs.Indexes.{each_more}
use Rattle.file_lists.proofs.Spots.{spot_cmp, spot_exact}
use Rattle.file_lists.proofs.owners.take_spots.Goals as goal

pub loop-spot-preserved : goal.loop-spot-preserved
loop-spot-preserved c =
    let before = c.loop-spot.spots.keys in
    let spot = get_or c.args.row.now c.loop-spot.spot-index (spot_of 0 0) in
    let grown : (s : Spot) → Contains before s → Contains c.insert.new.self.keys s = λ s has. subst (λ (ks : List Spot). Contains ks s) (sym c.in_ok-insert.ensures.keys) (inserted_kept spot_cmp before spot s has) in
    record {
      kept = λ s has. grown s (c.loop-spot.invariant.kept s has);
      there = each_more (Contains c.insert.new.self.keys) c.args.row.now c.loop-spot.spot-index spot c.loop-spot-test.true (get_or_any c.args.row.now c.loop-spot.spot-index (spot_of 0 0) spot c.loop-spot-test.true) (λ q has. grown q (c.loop-spot.invariant.there q has))
          (subst (λ (ks : List Spot). Contains ks spot) (sym c.in_ok-insert.ensures.keys) (inserted spot_cmp spot_exact before spot));
    }
