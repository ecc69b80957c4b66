use Rattle.reopening.proofs.Checkpoints.{merging_ends, status_alone}
use Rattle.reopening.proofs.laws.a_checkpoint_can_be_opened_amid.Goals as goal

pub returns-clause-amid : goal.returns-clause-amid
returns-clause-amid c = merging_ends c.a_stopped_opening_can_be_opened.ensures.records

pub returns-clause-alone : goal.returns-clause-alone
returns-clause-alone c = status_alone
