use Rattle.std.proofs.Common.{◌≡◌, take}
use Rattle.file_lists.specs.Owners.{owners_of}
use Rattle.file_lists.proofs.owners.scan.Given as goal

abbrev pub invariant-loop-list : goal.invariant-loop-list
invariant-loop-list l = l.owners ≡ owners_of l.diversions.ways (take l.list-index l.lists) l.at
