use Rattle.displaced_packages.proofs.displacing.remove_conflicting.Goals as goal

pub returns-clause-indexed : goal.returns-clause-indexed
returns-clause-indexed g c = c.in_ok-renew.ensures.ok c.args.administration.now.database.records c.law.ensures.order c.requires.indexed c.in_ok-failed.ensures.others
