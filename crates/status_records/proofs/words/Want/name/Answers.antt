use Rattle.std.proofs.Common.{rules}
use Rattle.status_records.proofs.words.Want.name.Goals as goal

pub returns-in-Hold : goal.returns-in-Hold
returns-in-Hold c = search rules
