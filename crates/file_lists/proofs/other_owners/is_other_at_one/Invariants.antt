use Rattle.std.proofs.Common.{◌≡◌, false, Contains, take}
use Rattle.file_lists.specs.declared.spot.Spot.{Spot}
use Rattle.file_lists.specs.Others.{is_other_at}
use Rattle.file_lists.proofs.other_owners.is_other_at_one.Given as goal

abbrev pub invariant-loop-spot : goal.invariant-loop-spot
invariant-loop-spot l = (spot : Spot) → Contains (take l.spot-index l.spots) spot → is_other_at l.diversions.ways l.at l.name l.lists spot ≡ false
