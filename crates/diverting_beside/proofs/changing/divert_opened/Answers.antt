use Rattle.diversions.proofs.Turning.{goes_here}
use Rattle.diverting_beside.proofs.changing.divert_opened.Goals as goal

pub returns-in_err-places-clause-turns : goal.returns-in_err-places-clause-turns
returns-in_err-places-clause-turns g c = goes_here _
