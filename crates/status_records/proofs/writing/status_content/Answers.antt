use Rattle.std.proofs.Common.{◌∙◌, ap}
use Rattle.control_fields.specs.Spelling.{spell_all}
use Rattle.status_records.proofs.Rounds.{status_again}
use Rattle.status_records.proofs.writing.status_content.Goals as goal

pub returns-in-Ok : goal.returns-in-Ok
returns-in-Ok c =
    status_again c.new.result c.args.records.now c.requires c.in_ok-paragraphs.ensures.parts
    (c.new.ensures ∙ c.in-Ok.ensures.spelled ∙ ap spell_all (c.as_slice.ensures.value ∙ c.in_ok-paragraphs.ensures.paragraphs))
