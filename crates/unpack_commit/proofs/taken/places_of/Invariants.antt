use Rattle.std.proofs.Common.{◌≡◌, take}
use Rattle.unpack_commit.specs.Takeover.{taken_places}
use Rattle.unpack_commit.proofs.taken.places_of.Given as goal

abbrev pub invariant-loop-work : goal.invariant-loop-work
invariant-loop-work l = l.places.items ≡ taken_places (take l.work-index l.works)
