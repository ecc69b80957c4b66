-- What a session holds of an administration.
use Rattle.std.specs.Prelude.{List}
use Rattle.host_core.specs.Paths.{Path}
use Rattle.diversions.specs.Diverted.{Diverted}
use Rattle.diversions.specs.Ways.{Ways}
use Rattle.file_lists.specs.Filed.{Filed}
use Rattle.file_lists.specs.Owners.{places_in}
use Rattle.file_lists.specs.declared.paths.PackageList.{PackageList}
use Rattle.held_administration.specs.declared.held.Administration.{Administration}
use Rattle.status_db.specs.Recorded.{Recorded}

-- its records, the lists of their packages, and its diversions
pub record Held : Type 0 where
  pub records : Recorded
  pub lists : List PackageList
  pub ways : Ways

-- what the values of a session hold
abbrev pub held : Recorded → Filed → Diverted → Held
held database lists diversions = record { records = database; lists = lists.lists; ways = diversions.ways }

-- what an administration holds, with these diversions
abbrev pub held_by : Administration → Diverted → Held
held_by administration diversions = held administration.database administration.lists diversions

-- the places of all listed paths, which running scripts leave alone
abbrev pub places_of : Held → List Path
places_of h = places_in h.ways h.lists
