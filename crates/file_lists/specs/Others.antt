-- Owners of a place that are other packages.
use Rattle.std.specs.Prelude.{not, ℕ, Bool, List}
use Rattle.std.specs.List.{list_any}
use Rattle.std.specs.Str.{bytes_eq}
use Rattle.host_core.specs.Paths.{Path}
use Rattle.diversions.specs.Ways.{Ways}
use Rattle.file_lists.specs.declared.paths.PackageList.{PackageList}
use Rattle.file_lists.specs.declared.paths.Listed.{Listed}
use Rattle.file_lists.specs.declared.spot.Spot.{Spot}
use Rattle.file_lists.specs.Index.{owner_at}

-- one of these is a package of another name
abbrev pub has_other : List ℕ → List Listed → Bool
has_other name owners = list_any (λ owner. not (bytes_eq owner.name name)) owners

-- the owner at a spot is such a package
abbrev pub is_other_at : Ways → Path → List ℕ → List PackageList → Spot → Bool
is_other_at ways at name lists spot = has_other name (owner_at ways at lists spot)
