-- What stands at a path at a moment of a unit, and which record of a package the next opening finds.
use Rattle.std.specs.Prelude.{◌≡◌, ◌⊎◌, ℕ, false, List, ◌++◌, Option, None}
use Rattle.host_core.specs.Paths.{Path}
use Rattle.host_core.specs.World.{World, Change, changed, lowered}
use Rattle.administration.specs.Places.{home_path, is_within}
use Rattle.status_db.specs.Held.{HasRecords}
use Rattle.status_records.specs.Records.{record_in}
use Rattle.status_records.specs.declared.record.Record.{Record}

-- what script calls made of what stood there; or, where the unit may take it, what they made of nothing since it went
pub data IsLeft (q : Path) (may_go : Type 0) (change : Change) (old now : World) : Type 0 where
  stood : now q ≡ changed change old q → IsLeft q may_go change old now
  went : may_go → (early late : Change) → change ≡ early ++ late → (gone : World) → gone q ≡ None → now q ≡ changed late gone q → IsLeft q may_go change old now

-- the same; or, where the unit may take a file away, that file on its way: it lends no rights any more
abbrev pub IsLeftOrGoing : (q : Path) → (may_go may_lower : Type 0) → Change → World → World → Type 0
IsLeftOrGoing q may_go may_lower change old now =
    IsLeft q may_go change old now ⊎ (may_lower × ((there : World) × IsLeft q may_go change old there × (now q ≡ lowered (there q))))

-- outside the administration's directory script calls alone changed what stands there
abbrev pub IsScripted : Change → World → World → Type 0
IsScripted change old now = (q : Path) → is_within home_path q ≡ false → now q ≡ changed change old q

-- the next opening finds a record of this package, or none, of which this holds
pub record IsRecorded (name : List ℕ) (is : Option Record → Type 0) (now : World) : Type 0 where
  pub table : List Record
  pub records : HasRecords now table
  pub own : is (record_in table name)
