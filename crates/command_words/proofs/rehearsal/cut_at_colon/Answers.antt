use Rattle.command_words.proofs.Rehearsing.{cut_parts}
use Rattle.command_words.proofs.rehearsal.cut_at_colon.Goals as goal

pub returns : goal.returns
returns c = cut_parts c.args.text.now c.split_once.result c.split_once.ensures.cases
