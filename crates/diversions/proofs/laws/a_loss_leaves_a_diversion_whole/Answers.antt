use Rattle.diversions.proofs.Losing.{adding_left, removing_left}
use Rattle.diversions.proofs.laws.a_loss_leaves_a_diversion_whole.Goals as goal

pub returns-clause-add : goal.returns-clause-add
returns-clause-add c = adding_left

pub returns-clause-remove : goal.returns-clause-remove
returns-clause-remove c = removing_left
