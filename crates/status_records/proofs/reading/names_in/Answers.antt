use Rattle.status_records.proofs.ConffileReading.{names_read}
use Rattle.status_records.proofs.reading.names_in.Goals as goal

pub returns-in-Some : goal.returns-in-Some
returns-in-Some c = names_read c.read.result c.args.lower.now c.args.fields.now c.in-Some.value.now c.requires.kind c.requires.readable c.in-Some.ensures c.read.ensures
