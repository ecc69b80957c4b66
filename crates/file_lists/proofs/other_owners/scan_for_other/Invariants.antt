use Rattle.std.proofs.Common.{◌≡◌, false, Contains, take}
use Rattle.file_lists.specs.declared.paths.PackageList.{PackageList}
use Rattle.file_lists.specs.Others.{has_other}
use Rattle.file_lists.specs.Owners.{owners_in}
use Rattle.file_lists.proofs.other_owners.scan_for_other.Given as goal

abbrev pub invariant-loop-list : goal.invariant-loop-list
invariant-loop-list l = (x : PackageList) → Contains (take l.list-index l.lists) x → has_other l.name (owners_in l.diversions.ways l.at x) ≡ false
