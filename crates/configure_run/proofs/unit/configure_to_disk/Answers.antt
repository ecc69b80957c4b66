use Rattle.configure_engine.specs.Units.{IsAmidUnit as IsAmidConfiguring}
use Rattle.unit_reports.specs.Held.{held_by}
use Rattle.configure_run.specs.Turns.{IsBeside, given_by}
use Rattle.configure_run.proofs.Moments.{beside_still, order_behind, silent_here, since_beside}
use Rattle.configure_run.proofs.unit.configure_to_disk.Goals as goal
use Rattle.host_core.proofs.Barriers.{since_to_disk, on_disk}

pub returns-in-Ok-barrier-clause-unit : goal.returns-in-Ok-barrier-clause-unit
returns-in-Ok-barrier-clause-unit g c = record { left = g.H.Host.state c.configure.new.host; unit = c.in-Ok.ensures.unit; flushed = c.in-Ok-barrier.ensures.does }

pub returns-in-Ok-barrier-clause-order : goal.returns-in-Ok-barrier-clause-order
returns-in-Ok-barrier-clause-order g c = order_behind (held_by c.configure.new.administration c.args.diversions.now) _ _ c.in-Ok-barrier.ensures.does c.in-Ok.ensures.order

pub returns-in-Ok-barrier-clause-on_disk : goal.returns-in-Ok-barrier-clause-on_disk
returns-in-Ok-barrier-clause-on_disk g c = on_disk _ _ c.in-Ok-barrier.ensures.does

pub returns-in-Ok-barrier-clause-told : goal.returns-in-Ok-barrier-clause-told
returns-in-Ok-barrier-clause-told g c = record { left = g.H.Host.state c.configure.new.host; called = c.configure.ensures.told; quiet = c.barrier.ensures.silent }

pub returns-in-Err-barrier-clause-told : goal.returns-in-Err-barrier-clause-told
returns-in-Err-barrier-clause-told g c = record { left = g.H.Host.state c.configure.new.host; called = c.configure.ensures.told; quiet = c.barrier.ensures.silent }

pub returns-in-Err-clause-told : goal.returns-in-Err-clause-told
returns-in-Err-clause-told g c = record { left = g.H.Host.state c.configure.new.host; called = c.configure.ensures.told; quiet = silent_here (g.H.Host.state c.configure.new.host) }

pub returns-in-Ok-barrier-clause-any_moment : goal.returns-in-Ok-barrier-clause-any_moment
returns-in-Ok-barrier-clause-any_moment g c =
    let P = IsAmidConfiguring (given_by c.args.policy c.args.name.now (held_by c.args.administration.now c.args.diversions.now)) (g.H.Host.state c.args.host.now).world in
    since_to_disk (IsBeside P) _ _ _ _ (λ x quiet w none beside. beside_still P x quiet w none beside) (since_beside P _ _ c.configure.ensures.any_moment) c.barrier.ensures.does

pub returns-in-Err-barrier-clause-any_moment : goal.returns-in-Err-barrier-clause-any_moment
returns-in-Err-barrier-clause-any_moment g c =
    let P = IsAmidConfiguring (given_by c.args.policy c.args.name.now (held_by c.args.administration.now c.args.diversions.now)) (g.H.Host.state c.args.host.now).world in
    since_to_disk (IsBeside P) _ _ _ _ (λ x quiet w none beside. beside_still P x quiet w none beside) (since_beside P _ _ c.configure.ensures.any_moment) c.barrier.ensures.does

pub returns-in-Err-clause-any_moment : goal.returns-in-Err-clause-any_moment
returns-in-Err-clause-any_moment g c =
    since_beside (IsAmidConfiguring (given_by c.args.policy c.args.name.now (held_by c.args.administration.now c.args.diversions.now)) (g.H.Host.state c.args.host.now).world) _ _ c.configure.ensures.any_moment
