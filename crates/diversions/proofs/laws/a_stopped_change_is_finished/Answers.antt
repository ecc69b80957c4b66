use Rattle.diversions.proofs.Stopping.{adding_again, added_is_there, removing_again}
use Rattle.diversions.proofs.laws.a_stopped_change_is_finished.Goals as goal

pub returns-clause-add : goal.returns-clause-add
returns-clause-add c = adding_again

pub returns-clause-there : goal.returns-clause-there
returns-clause-there c = added_is_there

pub returns-clause-remove : goal.returns-clause-remove
returns-clause-remove c = removing_again
