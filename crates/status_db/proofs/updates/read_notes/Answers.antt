use Rattle.std.proofs.Common.{◌∙◌, ap, length}
use Rattle.status_db.proofs.updates.read_notes.Goals as goal

pub read_marked-requires-clause-all : goal.read_marked-requires-clause-all
read_marked-requires-clause-all g c = ap length c.as_slice.ensures.value ∙ c.in_ok-marks.ensures.all
