use Rattle.undo_rows.specs.Transcripts.{MayRun}
use Rattle.undo_rows.proofs.Runs.{broken_beside, broken_step, broken_unwind, run_told}
use Rattle.undo_rows.proofs.Tellings.{begun_calls}
use Rattle.undo_rows.proofs.laws.what_is_broken_off_begins_a_run.Goals as goal

pub returns-clause-beside : goal.returns-clause-beside
returns-clause-beside g c = λ t rows after a b c told now first behind. broken_beside (g.A.Around.file_step_fault t) rows a b c told now behind after first

pub returns-clause-step : goal.returns-clause-step
returns-clause-step g c = λ t rows after row a b c told more now first second. broken_step (g.A.Around.file_step_fault t) rows row a b c told more now first after second

pub returns-clause-unwind : goal.returns-clause-unwind
returns-clause-unwind g c = λ t rows after row fall a b c d told more last now first second third. broken_unwind (g.A.Around.file_step_fault t) rows row a b c told more last first after fall d now second third

pub returns-clause-whole : goal.returns-clause-whole
returns-clause-whole g c = λ t ended rows a b c told now run behind. run_told (g.A.Around.file_step_fault t) rows a b c told now behind ended run

pub returns-clause-calls : goal.returns-clause-calls
returns-clause-calls g c = λ rows a b told now begun. begun_calls (MayRun rows) a b told now begun
