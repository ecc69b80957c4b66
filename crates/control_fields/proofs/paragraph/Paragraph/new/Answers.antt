use Rattle.std.proofs.Common.{rules}
use Rattle.control_fields.proofs.paragraph.Paragraph.new.Goals as goal

pub returns : goal.returns
returns c = search rules
