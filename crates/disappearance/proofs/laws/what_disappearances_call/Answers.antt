use Rattle.disappearance.proofs.Calling.{all_tells, called_tells}
use Rattle.disappearance.proofs.laws.what_disappearances_call.Goals as goal

pub returns-clause-disappeared : goal.returns-clause-disappeared
returns-clause-disappeared c = λ incoming version ways. all_tells incoming version ways

pub returns-clause-called : goal.returns-clause-called
returns-clause-called c = λ incoming version ways. called_tells incoming version ways
