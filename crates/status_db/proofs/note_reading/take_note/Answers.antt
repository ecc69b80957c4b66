use Rattle.std.proofs.Common.{◌∙◌, Some, ap, refl}
use Rattle.host_core.specs.declared.node.Node.{Node}
use Rattle.status_db.proofs.NoteTexts.{file_taken}
use Rattle.status_db.proofs.note_reading.take_note.Goals as goal

pub returns-in-Ok-clause-taken : goal.returns-in-Ok-clause-taken
returns-in-Ok-clause-taken c = file_taken c.args.node _ _ _ c.in-Ok.entry.name c.in-Ok.entry.kept _ _ (c.in-Some-File.is ∙ ap (λ (n : Node). Some n) c.in-Some-File.field-0-is) refl c.in-Ok.ensures.note c.in_ok-enter-in-Ok.ensures
