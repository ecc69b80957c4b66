use Rattle.host_core.proofs.Moments.{since_start}
use Rattle.scattered_losses.proofs.GoingApart.{goes_here}
use Rattle.tests_steps.specs.Nowhere.{nowhere}
use Rattle.tests_steps.proofs.noting.NotingAround.conclude.Goals as goal

pub returns-clause-any_moment : goal.returns-clause-any_moment
returns-clause-any_moment g c = since_start (λ so_far w. Unit {0}) _ tt

pub returns-clause-apart : goal.returns-clause-apart
returns-clause-apart g c = goes_here nowhere (g.H.Host.state c.args._host.now)
