use Rattle.std.proofs.Common.{◌≡◌, false, Contains, take}
use Rattle.std.specs.Str.{bytes_eq}
use Rattle.host_core.specs.Paths.{Path}
use Rattle.diversions.specs.Ways.{place}
use Rattle.file_lists.proofs.other_owners.is_other.Given as goal

abbrev pub invariant-loop-path : goal.invariant-loop-path
invariant-loop-path l = (path : Path) → Contains (take l.path-index l.path-items) path → bytes_eq (place l.diversions.ways l.list.name path) l.at ≡ false
