use Rattle.std.proofs.Common.{rules, ◌≡◌, ◌∙◌, ◌++◌, ℕ, List, Option, Ok, Err, ap, max, refl, subst}
use Rattle.std.specs.List.{flat_map}
use Rattle.report_lines.specs.Reports.{report_status, unit_lines}
use Rattle.unit_reports.specs.declared.report.Unit.{Unit as AUnit}
use Rattle.command_line.specs.Endings.{with_notes}
use Rattle.command_line.specs.Printing.{IsLeft, units_answer}
use Rattle.command_line.specs.Reports.{report_answer, work_answer}
use Rattle.command_line.specs.Triggering.{last_behind, triggered_status, units_behind, with_triggers}
use Rattle.command_line.specs.declared.answer.Answer.{Answer}
use Rattle.command_line.proofs.Behind.{breaks_work, triggered_answer, units_answer_as}
use Rattle.command_line.proofs.answer.worked.Goals as goal

pub returns-in-Ok-clause-ended : goal.returns-in-Ok-clause-ended
returns-in-Ok-clause-ended g c =
    let came = c.in-Ok.came in
    let done = came.done in
    let ended = c.in-Ok.ensures.done in
    let lines = flat_map unit_lines (done.units.items ++ units_behind came.triggered) in
    let held = g.O.Write.contents c.args.out.now in
    let printed = g.O.Write.contents c.work_telling-ended.new.printer.out.now in
    let left = c.units_left.ensures.left lines held printed (c.in-Ok.ensures.told refl) in
    let off = breaks_work _ _ done came.triggered _ _ _ _ ended.2.worked.worked in
    let same : units_answer lines c.last_behind-last.result.now c.max-status.result ≡ with_triggers came.triggered (report_answer done) =
    units_answer_as lines c.last_behind-last.ensures (search rules) ∙ triggered_answer done.units.items done.last came.triggered (report_status done) off in
    let notes = came.left in
    (Ok came, (ended, c.in-Ok.ensures.kept), subst (λ (h : Option (List ℕ)). IsLeft (with_notes notes (with_triggers came.triggered (report_answer done))) held h c.units_left.result) (search rules) (subst (λ (a : Answer). IsLeft (with_notes notes a) held printed c.units_left.result) same left))

pub returns-in-Err-clause-ended : goal.returns-in-Err-clause-ended
returns-in-Err-clause-ended g c =
    let told = work_answer (Err c.in-Err.fault) in
    let held = g.O.Write.contents c.args.out.now in
    (Err c.in-Err.fault, c.in-Err.ensures.refused, subst (λ (h : Option (List ℕ)). IsLeft told held h c.whole.result) (search rules) (c.whole.ensures.left told held c.not_opened.ensures))
