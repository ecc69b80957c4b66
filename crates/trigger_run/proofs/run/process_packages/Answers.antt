use Rattle.std.proofs.Common.{List, ℕ, subst, ◌∙◌}
use Rattle.host_core.specs.Host.{Since}
use Rattle.unit_reports.specs.Held.{held_by}
use Rattle.trigger_run.specs.Names.{once}
use Rattle.trigger_run.specs.Turns.{IsAmidTurns}
use Rattle.trigger_run.proofs.Ending.{not_begun, since_none}
use Rattle.trigger_run.proofs.run.process_packages.Goals as goal

pub returns-in-Ok-clause-any_moment : goal.returns-in-Ok-clause-any_moment
returns-in-Ok-clause-any_moment g c =
    subst (λ (names : List (List ℕ)). Since (IsAmidTurns names (held_by c.args.administration.now c.args.diversions.now) (g.H.Host.state c.args.host.now)) (g.H.Host.state c.args.host.now) (g.H.Host.state c.process_each.new.host)) c.in-Ok.ensures c.process_each.ensures.any_moment

pub returns-in-Err-clause-part : goal.returns-in-Err-clause-part
returns-in-Err-clause-part g c =
    not_begun (once c.args.names.items) (held_by c.args.administration.now c.args.diversions.now) (g.H.Host.state c.args.host.now) c.new.result.items c.broken.result c.new.ensures.items
    (record { broken = c.broken.ensures.reply; calls = c.broken.ensures.told ∙ c.new-in-Err.ensures.items; touched = c.broken.ensures.touched })

pub returns-in-Err-clause-any_moment : goal.returns-in-Err-clause-any_moment
returns-in-Err-clause-any_moment g c = since_none (once c.args.names.items) (held_by c.args.administration.now c.args.diversions.now) (g.H.Host.state c.args.host.now)
