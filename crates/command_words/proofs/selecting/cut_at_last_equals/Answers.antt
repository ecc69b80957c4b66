use Rattle.command_words.proofs.CutAtEquals.{last_parts}
use Rattle.command_words.proofs.selecting.cut_at_last_equals.Goals as goal

pub returns : goal.returns
returns c = last_parts c.args.text.now c.rsplit_once.result c.rsplit_once.ensures.cases
