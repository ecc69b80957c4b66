use Rattle.opening.proofs.Faultless.{no_fault}
use Rattle.opening.proofs.laws.what_is_fine_has_no_fault.Goals as goal

pub returns : goal.returns
returns c = no_fault
