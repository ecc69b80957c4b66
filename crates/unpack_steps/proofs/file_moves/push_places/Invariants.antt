use Rattle.std.proofs.Common.{◌≡◌, ◌++◌, take}
use Rattle.unpack_steps.specs.FileMoves.{places_of}
use Rattle.unpack_steps.proofs.file_moves.push_places.Given as goal

abbrev pub invariant-loop-work : goal.invariant-loop-work
invariant-loop-work l = l.places-inside.items.items ≡ l.fn.places ++ places_of (take l.work-index l.works)
