use Rattle.std.proofs.Common.{◌∙◌, ap}
use Rattle.control_fields.specs.Spelling.{spell}
use Rattle.status_db.proofs.NoteRounds.{gone_written}
use Rattle.status_db.proofs.note_text.gone_node.Goals as goal

pub returns-in-Ok : goal.returns-in-Ok
returns-in-Ok c = gone_written c.file_of.result c.new.result c.args.name.now c.requires (c.new.ensures ∙ c.in-Ok.ensures.spelled ∙ ap spell c.in_ok-paragraph.ensures) c.file_of.ensures
