use Rattle.undo_rows.proofs.Tellings.{made_calls}
use Rattle.unit_stages.specs.Calls.{AreCallsOf}
use Rattle.unit_stages.proofs.RunLaws.{run_later, run_left, run_made}
use Rattle.unit_stages.proofs.laws.what_a_run_of_stages_leaves.Goals as goal

pub returns-clause-left : goal.returns-clause-left
returns-clause-left c = run_left

pub returns-clause-made : goal.returns-clause-made
returns-clause-made c = run_made

pub returns-clause-calls : goal.returns-clause-calls
returns-clause-calls c = λ name ways stages failed before after s t told now run. made_calls (AreCallsOf stages failed) s t told now (run_made name ways stages failed before after s t told now run)

pub returns-clause-later : goal.returns-clause-later
returns-clause-later c = run_later
