use Rattle.kept_activations.proofs.NotesAmid.{ahead_stands, notes_journal, notes_records}
use Rattle.kept_activations.proofs.moments.what_a_stop_beside_units_leaves.Goals as goal

pub returns-clause-ahead : goal.returns-clause-ahead
returns-clause-ahead c = ahead_stands c.what_is_written_ahead_is_asked_for.ensures.adds

pub returns-clause-journal : goal.returns-clause-journal
returns-clause-journal c = notes_journal

pub returns-clause-records : goal.returns-clause-records
returns-clause-records c = notes_records
