use Rattle.command_words.proofs.Behind.{behind_parts}
use Rattle.command_words.proofs.frontends.behind.Goals as goal

pub returns : goal.returns
returns c = behind_parts c.args.front.now c.args.text.now c.strip_prefix.result c.strip_prefix.ensures.cases
