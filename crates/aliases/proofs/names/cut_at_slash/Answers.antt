use Rattle.aliases.proofs.Above.{cut_parts}
use Rattle.aliases.proofs.names.cut_at_slash.Goals as goal

pub returns : goal.returns
returns c = cut_parts c.args.text.now c.split_once.result c.split_once.ensures.cases
