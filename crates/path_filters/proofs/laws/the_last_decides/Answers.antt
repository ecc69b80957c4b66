use Rattle.path_filters.proofs.Deciding.{last, other}
use Rattle.path_filters.proofs.laws.the_last_decides.Goals as goal

pub returns-clause-last : goal.returns-clause-last
returns-clause-last c = last

pub returns-clause-other : goal.returns-clause-other
returns-clause-other c = other
