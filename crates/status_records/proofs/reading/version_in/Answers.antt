use Rattle.status_records.proofs.reading.version_in.Goals as goal
use Rattle.std.proofs.Common.{rules}

pub returns-in-None-clause-none : goal.returns-in-None-clause-none
returns-in-None-clause-none c = λ v is. c.in-None.ensures.none v is.0

pub returns-in-Some-clause-none : goal.returns-in-Some-clause-none
returns-in-Some-clause-none c = search rules
