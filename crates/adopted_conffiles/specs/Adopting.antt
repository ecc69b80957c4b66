-- Records are taken up by notes, one after another.
use Rattle.std.specs.Prelude.{◌≡◌, ◌≤◌, ℕ, List, [], ◌∷◌, ◌++◌, length, take}
use Rattle.host_core.specs.World.{World, KeepsBut}
use Rattle.diversions.specs.Ways.{Ways}
use Rattle.status_db.specs.Held.{CanOpenRecords, HasRecords, is_record_place}
use Rattle.status_records.specs.Records.{put_record}
use Rattle.status_records.specs.declared.record.Record.{Record}
use Rattle.adopted_conffiles.specs.Adopted.{all_adopted}

-- At each moment: of a table the records in front are taken up, by the files of the world before, and those behind them are as before. The
-- next opening finds them, and nothing else has changed.
pub record IsAdopting (ways : Ways) (table : List Record) (old now : World) : Type 0 where
  pub front : List Record
  pub back : List Record
  pub is : table ≡ front ++ back
  pub records : HasRecords now (all_adopted old ways front ++ back)
  pub opens : CanOpenRecords now
  pub rest : KeepsBut is_record_place old now

-- a table with these records in the places of those of their names
abbrev pub put_each : List Record → List Record → List Record
put_each [] table = table
put_each (r ∷ rs) table = put_each rs (put_record r table)

-- so many of these records are noted
pub record IsPutting (given table : List Record) (old now : World) : Type 0 where
  pub count : ℕ
  pub within : count ≤ length given
  pub records : HasRecords now (put_each (take count given) table)
  pub opens : CanOpenRecords now
  pub rest : KeepsBut is_record_place old now
