use Rattle.std.proofs.Common.{◌∙◌, Err, ap, sym}
use Rattle.command_line.specs.Steady.{at_once, missed}
use Rattle.command_line.specs.declared.steady.Unanswered.TheVariants.{Fault}
use Rattle.command_line.proofs.Turns.{turned}
use Rattle.command_line.proofs.steady.take_turn.Goals as goal

pub returns-then-is_final : goal.returns-then-is_final
returns-then-is_final g c = at_once c.answer-answer.result c.answer-answer.ensures (sym c.is_final.ensures ∙ c.if-is_final.true) c.told.ensures

pub returns-in-Ok : goal.returns-in-Ok
returns-in-Ok g c =
    turned g.W.Shown c.args.asked.now c.args.shown.now c.glance.new.self c.args.before.now c.in-Ok.after c.answer-answer.result c.compared.result
    (record { behind = c.answer-answer.new.self; answered = c.answer-answer.ensures; unsure = sym c.is_final.ensures ∙ c.if-is_final.false; glanced = c.in-Ok.ensures.glanced })
    c.compared.ensures

pub returns-in-Err : goal.returns-in-Err
returns-in-Err g c =
    missed c.answer-answer.result c.answer-answer.new.self c.in-Err.fault c.answer-answer.ensures (sym c.is_final.ensures ∙ c.if-is_final.false) c.in-Err.ensures.missed (ap (λ fault. Err (Fault fault)) c.from.ensures)
