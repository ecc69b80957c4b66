use Rattle.std.proofs.Common.{[], subst, rules}
use Rattle.control_fields.specs.Names.{AreNew}
use Rattle.control_fields.proofs.Keyed.{copied_new}
use Rattle.control_fields.proofs.paragraph.Paragraph.copy.Goals as goal
use Rattle.std.proofs.Common.{arith}
use Rattle.std.proofs.lemmas.Grind.{common_steps}

pub push-requires : goal.push-requires
push-requires c =
    copied_new c.loop-field.copied c.args.self.now c.loop-field.field-iterator c.next.new.self c.loop-field.yielded c.in-Some.field c.in_ok-copy.field-0 (subst (AreNew []) c.self.view_is c.self.invariant.new)
    c.loop-field.invariant.0 c.loop-field.invariant.1 c.in-Some.ensures.steps c.in_ok-copy.ensures

pub loop-field-preserved : goal.loop-field-preserved
loop-field-preserved c = grind (arith, common_steps)

pub returns : goal.returns
returns c = search rules
