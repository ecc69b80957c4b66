use Rattle.std.proofs.Common.{rules}
use Rattle.status_records.proofs.reading.check_end.Goals as goal

pub returns-in-Some-fault-clause-none : goal.returns-in-Some-fault-clause-none
returns-in-Some-fault-clause-none c = search rules
