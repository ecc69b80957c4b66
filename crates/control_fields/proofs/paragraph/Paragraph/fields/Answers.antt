use Rattle.std.proofs.Common.{rules}
use Rattle.control_fields.proofs.paragraph.Paragraph.fields.Goals as goal

pub returns-clause-rest : goal.returns-clause-rest
returns-clause-rest c = search rules
