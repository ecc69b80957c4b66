use Rattle.std.specs.Prelude.{Ok}
use Rattle.std.proofs.Common.{sym, ◌∙◌}
use Rattle.std.proofs.lemmas.Bool.{true≢false}
use Rattle.host_core.proofs.Moments.{since_start}
use Rattle.scattered_losses.proofs.GoingApart.{goes_here}
use Rattle.tests_steps.specs.Nowhere.{nowhere}
use Rattle.tests_steps.proofs.Nowhere.{nowhere_apart}
use Rattle.tests_steps.proofs.noting.NotingAround.work.Goals as goal

pub returns-in_err-clash-clause-any_moment : goal.returns-in_err-clash-clause-any_moment
returns-in_err-clash-clause-any_moment g c = since_start (λ so_far w. Unit {0}) _ tt

pub returns-then-self-clause-any_moment : goal.returns-then-self-clause-any_moment
returns-then-self-clause-any_moment g c = since_start (λ so_far w. Unit {0}) _ tt

pub returns-then-self-clause-denied : goal.returns-then-self-clause-denied
returns-then-self-clause-denied g c = λ is. absurd (true≢false (sym is ∙ c.in_ok-clash.ensures))

pub returns-in_err-clash-clause-apart : goal.returns-in_err-clash-clause-apart
returns-in_err-clash-clause-apart g c = nowhere_apart c.from_residual.result _ _ (since_start (λ so_far w. Unit {0}) (g.H.Host.state c.args.host.now) tt)

pub returns-then-self-clause-apart : goal.returns-then-self-clause-apart
returns-then-self-clause-apart g c = goes_here nowhere (g.H.Host.state c.args.host.now)

pub returns-in_err-write_note-clause-apart : goal.returns-in_err-write_note-clause-apart
returns-in_err-write_note-clause-apart g c = nowhere_apart c.from_residual-in_err-write_note.result _ _ c.write_note.ensures.any_moment

pub returns-clause-apart : goal.returns-clause-apart
returns-clause-apart g c = nowhere_apart {T = Unit {0}} {E = Unit {0}} (Ok tt) _ _ c.write_note.ensures.any_moment
