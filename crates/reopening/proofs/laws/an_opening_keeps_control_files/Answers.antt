use Rattle.reopening.proofs.ControlFiles.{adopted_keeps, lost_keeps, scattered_keeps}
use Rattle.reopening.proofs.laws.an_opening_keeps_control_files.Goals as goal

pub returns-clause-amid : goal.returns-clause-amid
returns-clause-amid c = adopted_keeps

pub returns-clause-lost : goal.returns-clause-lost
returns-clause-lost c = lost_keeps

pub returns-clause-scattered : goal.returns-clause-scattered
returns-clause-scattered c = scattered_keeps c.a_loss_is_path_by_path_like_a_stop.ensures.ordered
