use Rattle.aliases.proofs.Above.{lacks_on}
use Rattle.aliases.proofs.aliases.is_on.Goals as goal

pub returns-in-None : goal.returns-in-None
returns-in-None c = lacks_on c.args.place.now c.args.path.now c.in-None.ensures.cases
