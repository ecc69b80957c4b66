use Rattle.std.proofs.Common.{ap, ◌∙◌, Some}
use Rattle.clap.specs.Words.{Rule, rule_of}
use Rattle.clap.specs.declared.builder.arg.Arg.{Arg}
use Rattle.clap.specs.declared.builder.ArgAction.TheVariants.{Append}
use Rattle.command_words.proofs.command.words.Goals as goal

pub returns : goal.returns
returns c =
    ap rule_of (c.action.ensures ∙ ap (λ (a : Arg). record a { action = Some Append }) c.required.ensures)
    ∙ ap (λ (r : Rule). record r { action = Some Append; required = c.args.required }) c.new.ensures.rule
