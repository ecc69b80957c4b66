use Rattle.std.proofs.Common.{ap, ◌∙◌}
use Rattle.control_fields.specs.Names.{is_called}
use Rattle.control_fields.proofs.Keyed.{called_there}
use Rattle.control_fields.proofs.paragraph.Paragraph.finds.Goals as goal

pub returns-in-Some : goal.returns-in-Some
returns-in-Some c =
    called_there c.as_slice.result.now c.args.self.now c.in-Some.field-0.now c.in-Some.ensures.some
    ∙ ap (λ text. is_called text c.args.self.now) (c.as_slice.ensures.value ∙ c.in_ok-key.ensures)
