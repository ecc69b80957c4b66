-- What the next opening finds of records while a package disappears (Policy 6.6).
use Rattle.std.specs.Prelude.{◌≡◌, ◌≢◌, ◌⊎◌, ℕ, List, None}
use Rattle.host_core.specs.World.{World}
use Rattle.status_db.specs.Held.{CanOpenRecords, HasRecords}
use Rattle.status_records.specs.Records.{record_in}
use Rattle.status_records.specs.declared.record.Record.{Record}

-- the package's record is that of before, or gone; those of other packages are as before
pub record HasRecordsAmid (name : List ℕ) (before : List Record) (now : World) : Type 0 where
  pub table : List Record
  pub records : HasRecords now table
  pub opens : CanOpenRecords now
  pub own : (record_in table name ≡ record_in before name) ⊎ (record_in table name ≡ None)
  pub others : (q : List ℕ) → q ≢ name → record_in table q ≡ record_in before q
