-- What callers see of the open lists.
use Rattle.std.specs.Prelude.{Bool, List}
use Rattle.file_lists.specs.declared.paths.PackageList.{PackageList}

-- the lists in the order of names, and whether a fault came while one was written
pub record Filed : Type 0 where
  pub lists : List PackageList
  pub closed : Bool
