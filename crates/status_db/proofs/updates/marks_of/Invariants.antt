use Rattle.std.proofs.Common.{take}
use Rattle.status_db.specs.NoteReading.{HasMarks}
use Rattle.status_db.proofs.updates.marks_of.Given as goal

abbrev pub invariant-loop-name : goal.invariant-loop-name
invariant-loop-name l = HasMarks l.marks.items (take l.name-index l.names)
