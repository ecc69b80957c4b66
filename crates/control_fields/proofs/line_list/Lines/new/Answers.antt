use Rattle.std.proofs.Common.{rules}
use Rattle.control_fields.proofs.line_list.Lines.new.Goals as goal

pub returns : goal.returns
returns c = search rules
