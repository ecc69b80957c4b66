use Rattle.std.proofs.Common.{length}
use Rattle.file_lists.specs.Index.{IsGathering}
use Rattle.file_lists.proofs.owners.gather.Given as goal

abbrev pub invariant-loop-spot : goal.invariant-loop-spot
invariant-loop-spot l = IsGathering l.diversions.ways l.at l.lists l.spots.keys l.owners

abbrev pub decreases-loop-spot : goal.decreases-loop-spot
decreases-loop-spot l = length l.spots.keys
