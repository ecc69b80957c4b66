use Rattle.diversions.proofs.Turning.{goes_here}
use Rattle.diversions.proofs.changing.add_entry.Goals as goal

pub returns-then-has_same-clause-turns : goal.returns-then-has_same-clause-turns
returns-then-has_same-clause-turns g c = goes_here _
