use Rattle.std.proofs.Common.{Contains, take}
use Rattle.host_core.specs.Paths.{Path}
use Rattle.file_lists.specs.declared.spot.Spot.{Spot}
use Rattle.file_lists.specs.Index.{row_of}
use Rattle.file_lists.proofs.owners.spots_in.Given as goal

abbrev pub invariant-loop-key : goal.invariant-loop-key
invariant-loop-key l = (key : Path) (s : Spot) → Contains (take l.key-index l.keys) key → Contains (row_of l.index.rows key) s → Contains l.spots.keys s
