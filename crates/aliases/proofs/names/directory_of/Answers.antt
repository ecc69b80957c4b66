use Rattle.aliases.proofs.Above.{front_split, front_unsplit}
use Rattle.aliases.proofs.names.directory_of.Goals as goal

pub returns-in-Some : goal.returns-in-Some
returns-in-Some c = let k = c.in-Some.ensures.cases in front_split c.args.path.now c.in-Some.front.now k.0 k.1 k.2 k.3

pub returns-in-None : goal.returns-in-None
returns-in-None c = front_unsplit c.args.path.now c.in-None.ensures.cases
