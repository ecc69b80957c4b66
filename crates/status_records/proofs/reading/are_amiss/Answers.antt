use Rattle.status_records.proofs.SameRecords.{amiss_by}
use Rattle.status_records.proofs.reading.are_amiss.Goals as goal

pub returns-in-Some : goal.returns-in-Some
returns-in-Some c = amiss_by c.args.fields.now _ _ _ c.is_amiss_beside.result c.in-Some.ensures.some c.is_amiss_beside.ensures
