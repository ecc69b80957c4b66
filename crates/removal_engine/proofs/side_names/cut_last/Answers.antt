use Rattle.std.proofs.Common.{arith}
use Rattle.list_changes.proofs.Above.{last_parts}
use Rattle.removal_engine.proofs.side_names.cut_last.Goals as goal

pub returns : goal.returns
returns c = last_parts 47 c.args.path.now c.rsplit_once.result c.rsplit_once.ensures.cases (omega arith)
