use Rattle.status_db.proofs.RecordTurns.{goes_here, waits_here}
use Rattle.status_db.proofs.room.make_room.Goals as goal

pub returns-then-notes-lt-MOST_NOTES-clause-turns : goal.returns-then-notes-lt-MOST_NOTES-clause-turns
returns-then-notes-lt-MOST_NOTES-clause-turns g c = goes_here _

pub returns-then-notes-lt-MOST_NOTES-clause-waits : goal.returns-then-notes-lt-MOST_NOTES-clause-waits
returns-then-notes-lt-MOST_NOTES-clause-waits g c = waits_here _
