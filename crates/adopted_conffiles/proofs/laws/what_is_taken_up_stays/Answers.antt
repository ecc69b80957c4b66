use Rattle.adopted_conffiles.proofs.Taken.{adopted_on, same_names, stands_still}
use Rattle.adopted_conffiles.proofs.laws.what_is_taken_up_stays.Goals as goal

pub returns-clause-again : goal.returns-clause-again
returns-clause-again c = adopted_on

pub returns-clause-names : goal.returns-clause-names
returns-clause-names c = same_names

pub returns-clause-standing : goal.returns-clause-standing
returns-clause-standing c = stands_still
