use Rattle.std.proofs.Common.{ap}
use Rattle.std.specs.Prelude.{◌||◌, is_some, not}
use Rattle.status_records.specs.Records.{record_in}
use Rattle.status_db.proofs.open_records.note_record.Goals as goal

pub returns-in-Ok-clause-on_disk : goal.returns-in-Ok-clause-on_disk
returns-in-Ok-clause-on_disk g c = c.in-Ok.ensures.on_disk (ap (λ b. not b || is_some (record_in c.args.database.now.records c.args.entry.name)) c.requires.stands)
