use Rattle.std.proofs.Common.{rules}
use Rattle.host_files.proofs.errors.is_start_error.Goals as goal

pub returns-in_default : goal.returns-in_default
returns-in_default c = search rules
