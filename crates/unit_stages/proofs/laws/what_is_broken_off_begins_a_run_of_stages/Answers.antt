use Rattle.undo_rows.proofs.Tellings.{begun_calls}
use Rattle.unit_stages.specs.Calls.{MayRunStages}
use Rattle.unit_stages.proofs.laws.what_is_broken_off_begins_a_run_of_stages.Goals as goal

pub returns : goal.returns
returns c = record { calls = λ stages a b told now begun. begun_calls (MayRunStages stages) a b told now begun }
