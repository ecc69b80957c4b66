use Rattle.std.proofs.lemmas.Result.{IfOk-weaker}
use Rattle.clap.specs.Words.{app_of}
use Rattle.command_words.proofs.Adding.{three_added}
use Rattle.command_words.proofs.command.with_fourth.Goals as goal

pub returns : goal.returns
returns c =
    IfOk-weaker c.with-3.result _ _ (λ r e. three_added (app_of c.args.whole) (app_of c.in_ok-whole.whole) (app_of c.in_ok-whole-2.whole) (app_of r)
    (app_of c.in_ok-removing.field-0) (app_of c.in_ok-remove_selected_command.field-0) (app_of c.in_ok-asking.field-0) _ _ _
    c.in_ok-whole.ensures c.in_ok-removing.ensures.app c.in_ok-whole-2.ensures c.in_ok-remove_selected_command.ensures.app e c.in_ok-asking.ensures.app) c.with-3.ensures
