use Rattle.std.proofs.lemmas.Result.{IfOk-weaker}
use Rattle.clap.specs.Words.{app_of}
use Rattle.command_words.proofs.Adding.{four_added}
use Rattle.command_words.proofs.command.with_last.Goals as goal

pub returns : goal.returns
returns c =
    IfOk-weaker c.with-4.result _ _ (λ r e. four_added (app_of c.args.whole) (app_of c.in_ok-whole.whole) (app_of c.in_ok-whole-2.whole) (app_of c.in_ok-whole-3.whole) (app_of r)
    (app_of c.in_ok-truename_command.field-0) (app_of c.in_ok-undivert_command.field-0) (app_of c.in_ok-unpack_command.field-0) (app_of c.in_ok-verify_command.field-0) _ _ _ _
    c.in_ok-whole.ensures c.in_ok-truename_command.ensures.app c.in_ok-whole-2.ensures c.in_ok-undivert_command.ensures.app c.in_ok-whole-3.ensures c.in_ok-unpack_command.ensures.app
    e c.in_ok-verify_command.ensures.app) c.with-4.ensures
