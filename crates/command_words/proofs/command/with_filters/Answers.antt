use Rattle.std.proofs.lemmas.Result.{IfOk-weaker}
use Rattle.clap.specs.Words.{app_of, rule_of}
use Rattle.command_words.proofs.Adding.{two_ruled}
use Rattle.command_words.proofs.command.with_filters.Goals as goal

pub returns-clause-app : goal.returns-clause-app
returns-clause-app c =
    IfOk-weaker c.with_arg-2.result _ _ (λ r e. two_ruled (app_of c.args.command) (app_of c.in_ok-command.command) (app_of r)
    (rule_of c.options.result) (rule_of c.options-2.result) _ _
    c.in_ok-command.ensures.app c.options.ensures e c.options-2.ensures) c.with_arg-2.ensures.app
