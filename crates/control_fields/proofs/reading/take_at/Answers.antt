use Rattle.std.proofs.Common.{rules}
use Rattle.control_fields.proofs.reading.take_at.Goals as goal

pub returns-in-Err-Faulty-clause-takes : goal.returns-in-Err-Faulty-clause-takes
returns-in-Err-Faulty-clause-takes c = search rules

pub returns-in-Err-Faulty-clause-one : goal.returns-in-Err-Faulty-clause-one
returns-in-Err-Faulty-clause-one c = search rules
