use Rattle.std.proofs.Common.{rules}
use Rattle.undo_rows.proofs.rows.Owner.is.Goals as goal

pub returns-in-Files-Files : goal.returns-in-Files-Files
returns-in-Files-Files c = search rules
