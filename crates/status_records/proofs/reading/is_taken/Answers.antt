use Rattle.status_records.proofs.Sayings.{not_taken, taken_by}
use Rattle.status_records.proofs.reading.is_taken.Goals as goal

pub returns-in-None : goal.returns-in-None
returns-in-None c = not_taken c.args.names.now c.args.fields.now c.in-None.ensures.none

pub returns-in-Some : goal.returns-in-Some
returns-in-Some c = taken_by c.args.names.now c.args.fields.now c.in-Some.name.now c.has.result c.in-Some.ensures.some c.has.ensures
