use Rattle.host_core.proofs.Moments.{since_start}
use Rattle.tests_steps.proofs.noting.write_note.Goals as goal

pub returns-in_default-clause-any_moment : goal.returns-in_default-clause-any_moment
returns-in_default-clause-any_moment g c = since_start (λ so_far w. Unit {0}) _ tt

pub returns-in_err-node-clause-any_moment : goal.returns-in_err-node-clause-any_moment
returns-in_err-node-clause-any_moment g c = since_start (λ so_far w. Unit {0}) _ tt
