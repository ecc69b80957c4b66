-- What callers see of the open records.
use Rattle.std.specs.Prelude.{ℕ, Bool, List}
use Rattle.status_records.specs.declared.record.Record.{Record}

-- the records in the order of names, the number of the next note, and whether a fault came while one was written
pub record Recorded : Type 0 where
  pub records : List Record
  pub notes : ℕ
  pub closed : Bool
