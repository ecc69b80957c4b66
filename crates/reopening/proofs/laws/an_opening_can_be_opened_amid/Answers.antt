use Rattle.reopening.proofs.LostOpenings.{opening_lost}
use Rattle.reopening.proofs.Openings.{opening_ends}
use Rattle.reopening.proofs.laws.an_opening_can_be_opened_amid.Goals as goal

pub returns-clause-amid : goal.returns-clause-amid
returns-clause-amid c = opening_ends c.a_stopped_opening_can_be_opened.ensures.records

pub returns-clause-lost : goal.returns-clause-lost
returns-clause-lost c = opening_lost c.a_stopped_opening_can_be_opened.ensures.undamaged
