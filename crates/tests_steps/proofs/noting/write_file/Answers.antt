use Rattle.host_core.proofs.Moments.{since_reads, since_start, since_then, since_weaker}
use Rattle.tests_steps.proofs.noting.write_file.Goals as goal

pub returns-in_err-top-clause-any_moment : goal.returns-in_err-top-clause-any_moment
returns-in_err-top-clause-any_moment g c = since_start (λ so_far w. Unit {0}) _ tt

pub returns-in_err-path-clause-any_moment : goal.returns-in_err-path-clause-any_moment
returns-in_err-path-clause-any_moment g c = since_start (λ so_far w. Unit {0}) _ tt

pub returns-in_err-spare-clause-any_moment : goal.returns-in_err-spare-clause-any_moment
returns-in_err-spare-clause-any_moment g c = since_start (λ so_far w. Unit {0}) _ tt

pub returns-in_err-is_ready-clause-any_moment : goal.returns-in_err-is_ready-clause-any_moment
returns-in_err-is_ready-clause-any_moment g c = since_reads (λ so_far w. Unit {0}) _ _ c.is_ready.ensures.reads (λ fs failed. tt)

pub returns-then-not-branch-clause-any_moment : goal.returns-then-not-branch-clause-any_moment
returns-then-not-branch-clause-any_moment g c = since_reads (λ so_far w. Unit {0}) _ _ c.is_ready.ensures.reads (λ fs failed. tt)

pub returns-clause-any_moment : goal.returns-clause-any_moment
returns-clause-any_moment g c =
    since_then (λ so_far w. Unit {0}) _ _ _ (since_reads (λ so_far w. Unit {0}) _ _ c.is_ready.ensures.reads (λ fs failed. tt))
    (since_weaker _ (λ so_far w. Unit {0}) _ _ (λ so_far w is. tt) c.replace.ensures.any_moment)
