use Rattle.status_db.proofs.NotesRead.{table_of_text}
use Rattle.status_db.proofs.status_reading.read_file.Goals as goal

pub returns-in_ok-of_records-in-Ok-clause-table : goal.returns-in_ok-of_records-in-Ok-clause-table
returns-in_ok-of_records-in-Ok-clause-table c = table_of_text c.args.bytes.now c.in-Ok.records.items _ c.in-Ok.ensures.records c.in-Ok.ensures.standing c.in_ok-of_records-in-Ok.ensures
