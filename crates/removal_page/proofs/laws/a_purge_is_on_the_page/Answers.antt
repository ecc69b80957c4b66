use Rattle.removal_page.proofs.Removals.{purged_configured, purged_removed, purged_unconfigured}
use Rattle.removal_page.proofs.laws.a_purge_is_on_the_page.Goals as goal

pub returns-clause-configured : goal.returns-clause-configured
returns-clause-configured c = λ ways lists r to_come stages prerm are. purged_configured ways lists r to_come stages prerm are

pub returns-clause-unconfigured : goal.returns-clause-unconfigured
returns-clause-unconfigured c = λ ways lists r to_come stages none files are. purged_unconfigured ways lists r to_come stages none files are

pub returns-clause-removed : goal.returns-clause-removed
returns-clause-removed c = λ ways lists r to_come stages gone are. purged_removed ways lists r to_come stages gone are
