use Rattle.std.proofs.Common.{rules}
use Rattle.control_fields.proofs.field.Field.one_line.Goals as goal

pub returns : goal.returns
returns c = search rules
