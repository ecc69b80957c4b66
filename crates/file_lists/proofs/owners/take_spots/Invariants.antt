use Rattle.std.proofs.Common.{Contains, take}
use Rattle.file_lists.specs.declared.spot.Spot.{Spot}
use Rattle.file_lists.proofs.owners.take_spots.Given as goal

abbrev pub invariant-loop-spot : goal.invariant-loop-spot
invariant-loop-spot l = record {
  kept : (s : Spot) → Contains l.fn.spots.keys s → Contains l.spots.keys s;
  there : (s : Spot) → Contains (take l.spot-index l.row) s → Contains l.spots.keys s;
}
