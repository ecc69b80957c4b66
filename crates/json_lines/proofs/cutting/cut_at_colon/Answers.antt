use Rattle.std.proofs.Common.{arith}
use Rattle.json_lines.proofs.Splitting.{cut_parts}
use Rattle.json_lines.proofs.cutting.cut_at_colon.Goals as goal

pub returns : goal.returns
returns c = cut_parts 58 c.args.text.now c.split_once.result (omega arith) c.split_once.ensures.cases
