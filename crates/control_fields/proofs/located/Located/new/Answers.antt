use Rattle.std.proofs.Common.{rules}
use Rattle.control_fields.proofs.located.Located.new.Goals as goal

pub returns-clause-line : goal.returns-clause-line
returns-clause-line c = search rules
