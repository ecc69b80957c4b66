use Rattle.std.proofs.Common.{List, ℕ, subst}
use Rattle.status_db.specs.NoteReading.{HasMarks}
use Rattle.status_db.proofs.Marks.{all_marked}
use Rattle.status_db.proofs.updates.marks_in.Goals as goal

pub returns-clause-marks : goal.returns-clause-marks
returns-clause-marks c = λ w listing.
    all_marked w c.args.listing.now.names c.args.listing.now.bad c.in_ok-marks_of.field-0.items c.if-listing.false listing (subst (λ (l : List (List ℕ)). HasMarks c.in_ok-marks_of.field-0.items l) c.as_slice.ensures c.in_ok-marks_of.ensures)
