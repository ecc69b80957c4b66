use Rattle.unit_reports.specs.Held.{held_by}
use Rattle.unit_runs.specs.Turns.{GoesTo}
use Rattle.trigger_run.specs.Taking.{left_of}
use Rattle.trigger_run.proofs.Turning.{since_any}
use Rattle.trigger_run.proofs.turns.run_turns.Goals as goal

pub returns-in-Ok-clause-any_moment : goal.returns-in-Ok-clause-any_moment
returns-in-Ok-clause-any_moment g c =
    since_any (λ later. GoesTo (λ left behind. Unit {0}) later (left_of c.run_units.new.turns)) c.args.names.items (held_by c.args.administration.now c.args.diversions.now) (g.H.Host.state c.args.host.now) (g.H.Host.state c.run_units.new.host) c.run_units.ensures.any_moment

pub returns-in-Err-clause-any_moment : goal.returns-in-Err-clause-any_moment
returns-in-Err-clause-any_moment g c =
    since_any (λ later. GoesTo (λ left behind. Unit {0}) later (left_of c.run_units.new.turns)) c.args.names.items (held_by c.args.administration.now c.args.diversions.now) (g.H.Host.state c.args.host.now) (g.H.Host.state c.run_units.new.host) c.run_units.ensures.any_moment
