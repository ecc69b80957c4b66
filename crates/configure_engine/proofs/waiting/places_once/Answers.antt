use Rattle.std.proofs.Common.{arith}
use Rattle.std.proofs.lemmas.Grind.{common_steps}
use Rattle.configure_engine.proofs.PlacesOnce.{one_kept, places_kept}
use Rattle.configure_engine.proofs.waiting.places_once.Goals as goal

pub loop-path-preserved : goal.loop-path-preserved
loop-path-preserved c =
    let before = c.loop-path.invariant in
    let ways = c.args.diversions.now.ways in
    record {
      kept = one_kept ways c.loop-path.yielded c.loop-path.kept.items c.loop-path.places.items c.in-Some.path c.in_ok-place.place _ before.kept before.places c.in_ok-place.ensures c.in_ok-keep.ensures.kept;
      places = places_kept ways c.loop-path.kept.items c.loop-path.places.items c.in-Some.path c.in_ok-place.place _ _ before.places c.in_ok-place.ensures c.in_ok-keep.ensures.places c.in_ok-keep.ensures.kept;
      rest = grind (arith, common_steps);
    }
