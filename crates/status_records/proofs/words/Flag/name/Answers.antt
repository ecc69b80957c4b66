use Rattle.std.proofs.Common.{rules}
use Rattle.status_records.proofs.words.Flag.name.Goals as goal

pub returns-in-Reinstreq : goal.returns-in-Reinstreq
returns-in-Reinstreq c = search rules
