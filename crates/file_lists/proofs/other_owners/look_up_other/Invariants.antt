use Rattle.std.proofs.Common.{◌≡◌, false, Contains, take}
use Rattle.host_core.specs.Paths.{Path}
use Rattle.file_lists.specs.declared.spot.Spot.{Spot}
use Rattle.file_lists.specs.Index.{row_of}
use Rattle.file_lists.specs.Others.{is_other_at}
use Rattle.file_lists.proofs.other_owners.look_up_other.Given as goal

abbrev pub invariant-loop-key : goal.invariant-loop-key
invariant-loop-key l = (key : Path) → Contains (take l.key-index l.key-items) key → (spot : Spot) → Contains (row_of l.index.rows key) spot → is_other_at l.diversions.ways l.at l.name l.lists spot ≡ false
