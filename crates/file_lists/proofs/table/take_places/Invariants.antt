use Rattle.std.proofs.Common.{◌≡◌, ◌++◌, map, take}
use Rattle.diversions.specs.Ways.{place}
use Rattle.file_lists.proofs.table.take_places.Given as goal

abbrev pub invariant-loop-path : goal.invariant-loop-path
invariant-loop-path l = l.places-inside.items.items ≡ l.fn.places ++ map (place l.diversions.ways l.name) (take l.path-index l.paths)
