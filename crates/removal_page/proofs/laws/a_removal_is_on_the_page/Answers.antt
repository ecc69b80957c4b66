use Rattle.removal_page.proofs.Removals.{removed, removed_in_favour, removed_unconfigured}
use Rattle.removal_page.proofs.laws.a_removal_is_on_the_page.Goals as goal

pub returns-clause-configured : goal.returns-clause-configured
returns-clause-configured c = λ ways lists r to_come stages prerm are. removed ways lists r to_come stages prerm are

pub returns-clause-unconfigured : goal.returns-clause-unconfigured
returns-clause-unconfigured c = λ ways lists r to_come stages none files are. removed_unconfigured ways lists r to_come stages none files are

pub returns-clause-in_favour : goal.returns-clause-in_favour
returns-clause-in_favour c = λ ways lists r to_come stages are. removed_in_favour ways lists r to_come stages are
