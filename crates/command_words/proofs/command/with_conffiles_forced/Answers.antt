use Rattle.std.proofs.lemmas.Result.{IfOk-weaker}
use Rattle.clap.specs.Words.{app_of, rule_of}
use Rattle.command_words.proofs.Adding.{three_ruled}
use Rattle.command_words.proofs.command.with_conffiles_forced.Goals as goal

pub returns-clause-app : goal.returns-clause-app
returns-clause-app c =
    IfOk-weaker c.with_arg-3.result _ _ (λ r e. three_ruled (app_of c.args.command) (app_of c.in_ok-command.command) (app_of c.in_ok-command-2.command) (app_of r)
    (rule_of c.flag.result) (rule_of c.flag-2.result) (rule_of c.flag-3.result) _ _ _
    c.in_ok-command.ensures.app c.flag.ensures c.in_ok-command-2.ensures.app c.flag-2.ensures e c.flag-3.ensures) c.with_arg-3.ensures.app
