use Rattle.opening.proofs.Reopened.{diversions_stopped, lists_stopped, names_found, partly_stopped, records_stopped, undamaged_found, undamaged_stopped}
use Rattle.opening.proofs.laws.a_stopped_opening_can_be_opened.Goals as goal

pub returns-clause-undamaged : goal.returns-clause-undamaged
returns-clause-undamaged c = undamaged_stopped

pub returns-clause-no_fault : goal.returns-clause-no_fault
returns-clause-no_fault c = undamaged_found

pub returns-clause-no_names_fault : goal.returns-clause-no_names_fault
returns-clause-no_names_fault c = names_found

pub returns-clause-records : goal.returns-clause-records
returns-clause-records c = records_stopped

pub returns-clause-lists : goal.returns-clause-lists
returns-clause-lists c = lists_stopped

pub returns-clause-diversions : goal.returns-clause-diversions
returns-clause-diversions c = diversions_stopped

pub returns-clause-taken_up : goal.returns-clause-taken_up
returns-clause-taken_up c = partly_stopped
