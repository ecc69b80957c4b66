use Rattle.std.proofs.Common.{rules}
use Rattle.host_files.proofs.scripts.outcome_of.Goals as goal

pub returns-in-None : goal.returns-in-None
returns-in-None c = search rules
