use Rattle.std.proofs.Common.{arith, rules, ap}
use Rattle.std.specs.Prelude.{length}
use Rattle.control_fields.specs.Names.{line_of_field}
use Rattle.control_fields.proofs.Placed.{ends_before}
use Rattle.control_fields.proofs.located.Located.line_of.Goals as goal

pub overflow_add-line : goal.overflow_add-line
overflow_add-line c =
    let h = ends_before (line_of_field c.args.self.now.line c.args.self.now.paragraph c.args.index) c.loop-field.line c.loop-field.left c.loop-field.field-iterator c.next.new.self c.in-Some.field.now c.loop-field.invariant c.in-Some.ensures.steps c.if-left-eq0.false in
    omega (arith, h, c.requires)

pub overflow_add-line-in-loop-field : goal.overflow_add-line-in-loop-field
overflow_add-line-in-loop-field c =
    let h = ends_before (line_of_field c.args.self.now.line c.args.self.now.paragraph c.args.index) c.loop-field.line c.loop-field.left c.loop-field.field-iterator c.next.new.self c.in-Some.field.now c.loop-field.invariant c.in-Some.ensures.steps c.if-left-eq0.false in
    omega (arith, h, c.requires, ap length c.as_slice.ensures)

pub loop-field-preserved : goal.loop-field-preserved
loop-field-preserved c = search rules
