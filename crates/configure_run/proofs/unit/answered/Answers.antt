use Rattle.std.proofs.Common.{inr, subst}
use Rattle.unit_reports.specs.Units.{IsBroken}
use Rattle.configure_run.proofs.Replies.{reply_whole}
use Rattle.configure_run.proofs.unit.answered.Goals as goal

pub returns-in-Ok-clause-answer : goal.returns-in-Ok-clause-answer
returns-in-Ok-clause-answer c = inr (record { replied = c.in-Ok.ensures.reply; touched = c.in-Ok.ensures.touched; deconfigured = c.new.ensures })

pub returns-in-Ok-clause-untouched : goal.returns-in-Ok-clause-untouched
returns-in-Ok-clause-untouched c broken = absurd (reply_whole c.args.name.now c.args.failed (subst IsBroken c.in-Ok.ensures.reply broken))
