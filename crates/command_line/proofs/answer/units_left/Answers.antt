use Rattle.std.proofs.Common.{subst}
use Rattle.command_line.specs.Printing.{HasPrinted}
use Rattle.command_line.proofs.Printed.{left_cut, left_unsaid, left_wanting}
use Rattle.command_line.proofs.answer.units_left.Goals as goal

pub returns-in-Cut-clause-left : goal.returns-in-Cut-clause-left
returns-in-Cut-clause-left c = λ lines old new printed. left_cut c.args.notes lines c.args.last.now c.args.status old new (subst (λ f. HasPrinted lines f old new) c.in-Cut.is printed)

pub returns-in-Wanting-clause-left : goal.returns-in-Wanting-clause-left
returns-in-Wanting-clause-left c = λ lines old new printed. left_wanting c.args.notes lines c.args.last.now c.args.status old new (subst (λ f. HasPrinted lines f old new) c.in-Wanting.is printed)

pub returns-in_err-text-in-Whole-clause-left : goal.returns-in_err-text-in-Whole-clause-left
returns-in_err-text-in-Whole-clause-left c = λ lines old new printed. left_unsaid _ c.args.notes lines c.args.last.now c.args.status old new c.from_residual.result c.from_residual.ensures.1 (subst (λ f. HasPrinted lines f old new) c.in-Whole.is printed)
