use Rattle.std.proofs.Common.{rules}
use Rattle.command_words.proofs.comparison.Operator.holds.Goals as goal

pub returns-in-Lt : goal.returns-in-Lt
returns-in-Lt c = search rules
