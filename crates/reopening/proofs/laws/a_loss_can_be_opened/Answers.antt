use Rattle.reopening.proofs.Answered.{command_lost}
use Rattle.reopening.proofs.Losses.{opened_lost, stands_lost}
use Rattle.reopening.proofs.laws.a_loss_can_be_opened.Goals as goal

pub returns-clause-amid : goal.returns-clause-amid
returns-clause-amid c = opened_lost

pub returns-clause-answered : goal.returns-clause-answered
returns-clause-answered c = stands_lost

pub returns-clause-command : goal.returns-clause-command
returns-clause-command c = command_lost c.history_stands.ensures.history
