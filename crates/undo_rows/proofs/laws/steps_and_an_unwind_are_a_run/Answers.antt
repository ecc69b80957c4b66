use Rattle.std.proofs.Common.{[], refl}
use Rattle.host_core.specs.Host.{calls}
use Rattle.undo_rows.specs.Transcript.{Succeed}
use Rattle.undo_rows.specs.Transcripts.{IfHonest, Legal}
use Rattle.undo_rows.proofs.Runs.{has_stepped, has_unwound, run_beside}
use Rattle.undo_rows.proofs.Tellings.{made_calls, made_none}
use Rattle.undo_rows.proofs.laws.steps_and_an_unwind_are_a_run.Goals as goal

pub returns-clause-none : goal.returns-clause-none
returns-clause-none g c = λ t a b told silent. made_none (Succeed (IfHonest b (g.A.Around.file_step_fault t)) (calls a) []) a b told refl silent

pub returns-clause-step : goal.returns-clause-step
returns-clause-step g c = λ t rows row a b c told more now first second. has_stepped (g.A.Around.file_step_fault t) rows row a b c told more now first second

pub returns-clause-committed : goal.returns-clause-committed
returns-clause-committed g c = λ t rows a b told now first. first

pub returns-clause-unwound : goal.returns-clause-unwound
returns-clause-unwound g c = λ t rows after row fall failed a b c d told more last now at first second third. has_unwound (g.A.Around.file_step_fault t) rows row a b c told more last first after fall d now second failed at third

pub returns-clause-beside : goal.returns-clause-beside
returns-clause-beside g c = λ t ended rows a b c told now run behind. run_beside (g.A.Around.file_step_fault t) rows a b c told now behind ended run

pub returns-clause-calls : goal.returns-clause-calls
returns-clause-calls g c = λ t ended rows a b told now run. made_calls (Legal (IfHonest b (g.A.Around.file_step_fault t)) (calls a) ended rows) a b told now run
