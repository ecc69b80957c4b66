use Rattle.std.proofs.Common.{rules}
use Rattle.control_fields.proofs.paragraph.Paragraph.push.Goals as goal

pub add-requires-clause-key : goal.add-requires-clause-key
add-requires-clause-key c = search rules
