use Rattle.std.proofs.Common.{rules}
use Rattle.opening.proofs.open.damaged.Goals as goal

pub returns : goal.returns
returns c = search rules
