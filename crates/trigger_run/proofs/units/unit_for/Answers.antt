use Rattle.unit_reports.proofs.Counting.{no_memory_within}
use Rattle.unit_reports.specs.Held.{held_by}
use Rattle.trigger_run.proofs.Lacking.{ready_of}
use Rattle.trigger_run.proofs.Processings.{since_ready}
use Rattle.trigger_run.proofs.Replies.{quiet_within}
use Rattle.trigger_run.proofs.units.unit_for.Goals as goal

pub returns-in-Ok-true-clause-any_moment : goal.returns-in-Ok-true-clause-any_moment
returns-in-Ok-true-clause-any_moment g c =
    since_ready c.args.«package» (held_by c.args.administration.now c.args.diversions.now) (g.H.Host.state c.args.host.now) (g.H.Host.state c.process_named.new.host)
    (ready_of c.args.administration.now.database.records c.args.«package» c.in-Ok-true.field-0 c.in-Ok-true.field-0-test c.in-Ok-true.ensures) c.process_named.ensures.any_moment

pub returns-in-Ok-false-clause-not_closed : goal.returns-in-Ok-false-clause-not_closed
returns-in-Ok-false-clause-not_closed g c = quiet_within _ _ _ c.passed_over.result c.passed_over.ensures.unit

pub returns-in-Err-clause-not_closed : goal.returns-in-Err-clause-not_closed
returns-in-Err-clause-not_closed g c = no_memory_within c.broken.result.reply c.broken.ensures.reply
