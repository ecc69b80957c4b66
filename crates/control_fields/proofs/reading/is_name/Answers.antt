use Rattle.std.proofs.Common.{rules}
use Rattle.control_fields.proofs.reading.is_name.Goals as goal

pub returns : goal.returns
returns c = search rules
