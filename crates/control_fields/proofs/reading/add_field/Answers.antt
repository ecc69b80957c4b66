use Rattle.std.proofs.Common.{◌≡◌, ◌∙◌, rules, false}
use Rattle.control_fields.specs.Names.{settled_last, stands}
use Rattle.control_fields.proofs.Settled.{stands_settled}
use Rattle.control_fields.proofs.reading.add_field.Goals as goal

pub push-requires : goal.push-requires
push-requires c =
    let new : stands c.args.name.now (settled_last c.args.begun.now.paragraph) ≡ false = stands_settled c.args.name.now c.args.begun.now.paragraph ∙ c.requires in
    search rules
