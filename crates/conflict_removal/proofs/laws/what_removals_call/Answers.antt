use Rattle.conflict_removal.proofs.Calling.{called_tells, removed_tells}
use Rattle.conflict_removal.proofs.laws.what_removals_call.Goals as goal

pub returns-clause-removed : goal.returns-clause-removed
returns-clause-removed c = λ ways. removed_tells ways c.what_a_run_of_stages_leaves.ensures.calls

pub returns-clause-called : goal.returns-clause-called
returns-clause-called c = λ ways. called_tells ways c.what_a_run_of_stages_leaves.ensures.calls c.what_is_broken_off_begins_a_run_of_stages.ensures.calls
