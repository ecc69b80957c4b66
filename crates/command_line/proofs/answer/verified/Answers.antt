use Rattle.std.proofs.Common.{inr, refl}
use Rattle.command_line.specs.Queries.{unanswered_answer}
use Rattle.command_line.proofs.answer.verified.Goals as goal

pub returns-clause-answered : goal.returns-clause-answered
returns-clause-answered g c = (unanswered_answer c.in-Err.why, inr (c.in-Err.why, c.in-Err.ensures.refused, refl), c.unanswered.ensures.answer)
