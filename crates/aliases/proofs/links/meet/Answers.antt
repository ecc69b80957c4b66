use Rattle.aliases.proofs.Going.{met}
use Rattle.aliases.proofs.links.meet.Goals as goal

pub returns : goal.returns
returns c = met c.args.at.now c.args.text.now c.args.rest.now c.in_ok-start.start c.in_ok-names.names c.in_ok-start.ensures c.in_ok-names.ensures
