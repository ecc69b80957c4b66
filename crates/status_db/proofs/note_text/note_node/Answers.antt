use Rattle.std.proofs.Common.{◌∙◌, ap}
use Rattle.control_fields.specs.Spelling.{spell}
use Rattle.status_db.proofs.NoteRounds.{note_written}
use Rattle.status_db.proofs.note_text.note_node.Goals as goal

pub returns-in-Ok : goal.returns-in-Ok
returns-in-Ok c =
    note_written c.file_of.result c.new.result c.args.entry.now c.in_ok-paragraph.ensures.parts (c.new.ensures ∙ c.in-Ok.ensures.spelled ∙ ap spell c.in_ok-paragraph.ensures.paragraph) c.requires c.file_of.ensures
