use Rattle.aliases.proofs.Going.{name_cut, name_last}
use Rattle.aliases.proofs.names.first_name.Goals as goal

pub returns-in-Some-clause-cut : goal.returns-in-Some-clause-cut
returns-in-Some-clause-cut c = name_cut c.args.names.now c.in-Some.cut.0.now c.in-Some.cut.1.now c.in-Some.ensures.0 c.in-Some.ensures.1

pub returns-in-None-clause-cut : goal.returns-in-None-clause-cut
returns-in-None-clause-cut c = name_last c.args.names.now c.in-None.ensures
