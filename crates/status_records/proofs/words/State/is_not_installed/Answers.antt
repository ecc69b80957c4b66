use Rattle.std.proofs.Common.{rules}
use Rattle.status_records.proofs.words.State.is_not_installed.Goals as goal

pub returns-in-HalfInstalled : goal.returns-in-HalfInstalled
returns-in-HalfInstalled c = search rules
