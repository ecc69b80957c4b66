use Rattle.std.proofs.Common.{subst, sym}
use Rattle.std.proofs.lemmas.Result.{IfOk-weaker}
use Rattle.command_words.specs.Topics.{IsScreen}
use Rattle.command_words.proofs.help.usage_text.Goals as goal

pub returns : goal.returns
returns c =
    IfOk-weaker c.both.result _ _
    (λ text h. (c.args.why.now, c.as_str.result.now, subst (IsScreen c.args.topic) (sym c.as_str.ensures.value) c.in_ok-screen.ensures, h)) c.both.ensures
