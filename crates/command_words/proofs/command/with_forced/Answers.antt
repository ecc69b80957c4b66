use Rattle.std.proofs.Common.{◌∙◌, ap}
use Rattle.std.proofs.lemmas.Result.{IfOk-weaker}
use Rattle.clap.specs.Words.{App, Rule, app_of, rule_of, with_rule}
use Rattle.command_words.specs.CommandLine.{with_conffiles_forced}
use Rattle.command_words.proofs.command.with_forced.Goals as goal

pub returns-clause-app : goal.returns-clause-app
returns-clause-app c =
    IfOk-weaker c.with_arg.result _ _ (λ r e. e ∙ ap (λ (a : App). with_rule a (rule_of c.flag.result)) c.in_ok-with_conffiles_forced.ensures.app
    ∙ ap (λ (x : Rule). with_rule (with_conffiles_forced (app_of c.args.command)) x) c.flag.ensures) c.with_arg.ensures.app
