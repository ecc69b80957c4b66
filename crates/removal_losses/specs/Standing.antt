-- What a record tells of a package's files (Policy 6.8).
use Rattle.std.specs.Prelude.{◌≡◌, ◌≢◌, Option, Some}
use Rattle.status_records.specs.declared.record.Record.{Record}
use Rattle.status_records.specs.declared.words.State.TheVariants.{ConfigFiles, HalfInstalled}

-- The package has its files: it has a record, and is neither half-installed nor removed but for its conffiles.
pub record HasItsFiles (found : Option Record) : Type 0 where
  pub entry : Record
  pub is : found ≡ Some entry
  pub whole : entry.state ≢ HalfInstalled
  pub stays : entry.state ≢ ConfigFiles
