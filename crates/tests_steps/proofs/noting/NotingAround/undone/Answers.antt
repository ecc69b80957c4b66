use Rattle.host_core.proofs.Moments.{since_start}
use Rattle.scattered_losses.proofs.GoingApart.{goes_here}
use Rattle.tests_steps.specs.Nowhere.{nowhere}
use Rattle.tests_steps.proofs.Nowhere.{nowhere_apart}
use Rattle.tests_steps.proofs.noting.NotingAround.undone.Goals as goal

pub returns-then-fails-clause-any_moment : goal.returns-then-fails-clause-any_moment
returns-then-fails-clause-any_moment g c = since_start (λ so_far w. Unit {0}) _ tt

pub returns-then-fails-clause-apart : goal.returns-then-fails-clause-apart
returns-then-fails-clause-apart g c = goes_here nowhere (g.H.Host.state c.args.host.now)

pub returns-clause-apart : goal.returns-clause-apart
returns-clause-apart g c = nowhere_apart c.write_note.result _ _ c.write_note.ensures.any_moment
