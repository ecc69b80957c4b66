use Rattle.std.proofs.Common.{arith}
use Rattle.dpkg_words.proofs.Cutting.{cut_parts}
use Rattle.dpkg_words.proofs.words.cut_at_equals.Goals as goal

pub returns : goal.returns
returns c = cut_parts 61 c.args.text.now c.split_once.result (omega arith) c.split_once.ensures.cases
