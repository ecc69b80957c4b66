use Rattle.diversions.proofs.Turning.{goes_here}
use Rattle.diversions.proofs.diversions.Diversions.add.Goals as goal

pub returns-then-self-clause-turns : goal.returns-then-self-clause-turns
returns-then-self-clause-turns g c = goes_here _
