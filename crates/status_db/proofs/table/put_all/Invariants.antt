use Rattle.std.proofs.Common.{◌≡◌, ℕ, List, length}
use Rattle.status_records.specs.Records.{AreStanding, record_in}
use Rattle.status_db.proofs.Filling.{over}
use Rattle.status_db.proofs.table.put_all.Given as goal

abbrev pub invariant-loop-record : goal.invariant-loop-record
invariant-loop-record l = record {
  stand : AreStanding l.records.items;
  look : (name : List ℕ) → over (record_in l.records.items name) (record_in l.table name) ≡ record_in l.fn.records.items name;
}

abbrev pub decreases-loop-record : goal.decreases-loop-record
decreases-loop-record l = length l.records.items
