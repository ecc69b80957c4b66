use Rattle.trigger_journal.proofs.Lines.{adds, all_foreseen, each_found}
use Rattle.trigger_journal.proofs.laws.what_is_written_ahead_is_asked_for.Goals as goal

pub returns-clause-adds : goal.returns-clause-adds
returns-clause-adds c = adds

pub returns-clause-all : goal.returns-clause-all
returns-clause-all c = all_foreseen

pub returns-clause-found : goal.returns-clause-found
returns-clause-found c = each_found
