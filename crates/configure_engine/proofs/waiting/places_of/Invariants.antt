use Rattle.std.proofs.Common.{◌≡◌, map, take}
use Rattle.configure_engine.specs.Waiting.{place_of}
use Rattle.configure_engine.proofs.waiting.places_of.Given as goal

abbrev pub invariant-loop-path : goal.invariant-loop-path
invariant-loop-path l = l.places.items ≡ map (place_of l.diversions.ways) (take l.path-index l.paths)
