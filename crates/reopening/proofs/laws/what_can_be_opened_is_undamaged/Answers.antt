use Rattle.reopening.proofs.Undamaged.{opened_no_fault, opened_undamaged}
use Rattle.reopening.proofs.laws.what_can_be_opened_is_undamaged.Goals as goal

pub returns-clause-undamaged : goal.returns-clause-undamaged
returns-clause-undamaged c = opened_undamaged c.what_is_fine_has_no_fault.ensures

pub returns-clause-no_fault : goal.returns-clause-no_fault
returns-clause-no_fault c = opened_no_fault c.what_is_fine_has_no_fault.ensures
