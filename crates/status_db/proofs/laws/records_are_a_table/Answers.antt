use Rattle.status_records.proofs.Tables.{record_in-put_record, record_in-drop_record}
use Rattle.status_db.proofs.laws.records_are_a_table.Goals as goal

pub returns-clause-put : goal.returns-clause-put
returns-clause-put c = record_in-put_record

pub returns-clause-drop : goal.returns-clause-drop
returns-clause-drop c = record_in-drop_record
