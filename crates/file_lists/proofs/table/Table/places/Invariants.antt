use Rattle.std.proofs.Common.{◌≡◌, take}
use Rattle.file_lists.specs.Owners.{places_in}
use Rattle.file_lists.proofs.table.Table.places.Given as goal

abbrev pub invariant-loop-list : goal.invariant-loop-list
invariant-loop-list l = l.places ≡ places_in l.diversions.ways (take l.list-index l.list-items)
