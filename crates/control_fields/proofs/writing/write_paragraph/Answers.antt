use Rattle.std.proofs.Common.{rules}
use Rattle.control_fields.proofs.writing.write_paragraph.Goals as goal

pub returns-clause-spelled : goal.returns-clause-spelled
returns-clause-spelled c = search rules
