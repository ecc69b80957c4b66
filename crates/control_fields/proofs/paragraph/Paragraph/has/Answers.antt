use Rattle.std.proofs.Common.{◌∙◌, ap, sym}
use Rattle.std.proofs.lemmas.Bool.{both_ways}
use Rattle.control_fields.specs.Names.{lower}
use Rattle.control_fields.proofs.Keyed.{called_at, called_more, walk_more}
use Rattle.control_fields.proofs.paragraph.Paragraph.has.Goals as goal

pub returns-then-eq_ignore_ascii_case : goal.returns-then-eq_ignore_ascii_case
returns-then-eq_ignore_ascii_case c =
    called_at (lower c.args.name.now) c.args.self.now c.loop-field.field-iterator c.next.new.self c.loop-field.yielded c.in-Some.field c.loop-field.invariant.1 c.in-Some.ensures.steps
    (sym (ap lower c.as_slice.ensures) ∙ c.eq_ignore_ascii_case.ensures.test.0 c.if-eq_ignore_ascii_case.true)

pub loop-field-preserved : goal.loop-field-preserved
loop-field-preserved c = (
  called_more (lower c.args.name.now) c.loop-field.yielded c.in-Some.field c.loop-field.invariant.0
      (λ e. both_ways c.eq_ignore_ascii_case.result c.if-eq_ignore_ascii_case.false (c.eq_ignore_ascii_case.ensures.test.1 (ap lower c.as_slice.ensures ∙ e))),
  walk_more c.args.self.now c.loop-field.field-iterator c.next.new.self c.loop-field.yielded c.in-Some.field c.loop-field.invariant.1 c.in-Some.ensures.steps,
)
