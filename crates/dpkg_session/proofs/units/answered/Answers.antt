use Rattle.std.proofs.Common.{inr}
use Rattle.dpkg_session.proofs.Touching.{told_as}
use Rattle.dpkg_session.proofs.units.answered.Goals as goal

pub returns-in-Ok-clause-answer : goal.returns-in-Ok-clause-answer
returns-in-Ok-clause-answer c = inr (record {
  replied = c.reply_to.ensures;
  told = told_as _ _ _ _ _ _ _ _ _ _ _ _ c.as_slice.ensures.value c.as_slice-2.ensures c.as_slice-3.ensures c.as_slice-4.ensures c.in-Ok.ensures;
})
