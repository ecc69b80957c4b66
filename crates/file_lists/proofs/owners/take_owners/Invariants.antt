use Rattle.std.proofs.Common.{◌≡◌, ◌++◌, map, filter, take}
use Rattle.std.specs.Str.{bytes_eq}
use Rattle.diversions.specs.Ways.{place}
use Rattle.file_lists.specs.Owners.{listed}
use Rattle.file_lists.proofs.owners.take_owners.Given as goal

abbrev pub invariant-loop-path : goal.invariant-loop-path
invariant-loop-path l = l.owners ≡ l.fn.owners ++ map (listed l.list.name) (filter (λ path. bytes_eq (place l.diversions.ways l.list.name path) l.at) (take l.path-index l.path-items))
