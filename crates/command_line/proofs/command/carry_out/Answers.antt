use Rattle.std.proofs.Common.{◌∙◌, Ok, ap, inl, subst}
use Rattle.command_line.specs.Printing.{IsLeft}
use Rattle.command_line.proofs.Printed.{given_left, given_wanting}
use Rattle.command_line.proofs.command.carry_out.Goals as goal

pub returns-in-Ok-Rest-clause-answered : goal.returns-in-Ok-Rest-clause-answered
returns-in-Ok-Rest-clause-answered g c =
    let told = c.answer_to.ensures.answered in
    let held = g.O.Write.contents in
    let left = subst (λ r. IsLeft told.0 (held c.args.out.now) (held c.answer_to.new.out) r) (c.in-Ok-Rest.is ∙ ap Ok c.in-Ok-Rest.field-0-is) told.2 in
    (told.0, told.1, inl (given_left told.0 c.in-Ok-Rest.answer (held c.args.out.now) (held c.answer_to.new.out) (held c.give.new.out) (g.E.Write.contents c.args.err.now) (g.E.Write.contents c.give.new.err) c.give.result left c.give.ensures.given))

pub returns-in-Err-clause-answered : goal.returns-in-Err-clause-answered
returns-in-Err-clause-answered g c =
    let told = c.answer_to.ensures.answered in
    let held = g.O.Write.contents in
    let left = subst (λ r. IsLeft told.0 (held c.args.out.now) (held c.answer_to.new.out) r) c.in-Err.is told.2 in
    (told.0, told.1, given_wanting held told.0 c.args.out.now c.answer_to.new.out (g.E.Write.contents c.args.err.now) (g.E.Write.contents c.give_want_of_memory.new.err) c.give_want_of_memory.result _ c.answer_to.ensures.unprinted left c.give_want_of_memory.ensures.given)
