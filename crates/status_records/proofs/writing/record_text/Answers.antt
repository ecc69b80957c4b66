use Rattle.std.proofs.Common.{◌∙◌, ap}
use Rattle.control_fields.specs.Spelling.{spell}
use Rattle.status_records.proofs.Rounds.{record_read}
use Rattle.status_records.proofs.writing.record_text.Goals as goal

pub returns-in-Ok-clause-read : goal.returns-in-Ok-clause-read
returns-in-Ok-clause-read c = λ there.
    record_read c.new.result c.args.entry.now c.in_ok-paragraph.ensures.parts (c.new.ensures ∙ c.in-Ok.ensures.spelled ∙ ap spell c.in_ok-paragraph.ensures.paragraph) there
