use Rattle.std.proofs.Common.{inl}
use Rattle.dpkg_session.proofs.Barriers.{brought_behind, opening_to_disk, opens_stopped, taken_behind}
use Rattle.dpkg_session.proofs.session.open_to_disk.Goals as goal
use Rattle.host_core.proofs.Barriers.{barrier_world}

pub returns-in-Ok-barrier-clause-any_moment : goal.returns-in-Ok-barrier-clause-any_moment
returns-in-Ok-barrier-clause-any_moment g c = opening_to_disk _ _ _ _ c.open_adopted.ensures.any_moment c.barrier.ensures.does

pub returns-in-Err-barrier-clause-opens : goal.returns-in-Err-barrier-clause-opens
returns-in-Err-barrier-clause-opens g c = λ h.
    opens_stopped c.in-Err-barrier.fault c.from.result _ _ _ c.from.ensures (barrier_world _ _ _ c.barrier.ensures.does h) (c.in-Ok.ensures.opens (c.barrier.ensures.silent.honest h))

pub returns-in-Err-barrier-clause-any_moment : goal.returns-in-Err-barrier-clause-any_moment
returns-in-Err-barrier-clause-any_moment g c = opening_to_disk _ _ _ _ c.open_adopted.ensures.any_moment c.barrier.ensures.does

pub returns-in-Ok-barrier-clause-brought : goal.returns-in-Ok-barrier-clause-brought
returns-in-Ok-barrier-clause-brought g c = λ h stopped.
    brought_behind c.barrier.result (g.H.Host.state c.args.host.now) (g.H.Host.state c.open_adopted.new.host) (g.H.Host.state c.barrier.new.self) (c.in-Ok.ensures.brought (c.barrier.ensures.silent.honest h) stopped) c.barrier.ensures.does

pub returns-in-Err-barrier-clause-brought : goal.returns-in-Err-barrier-clause-brought
returns-in-Err-barrier-clause-brought g c = λ h stopped.
    inl (brought_behind c.barrier.result (g.H.Host.state c.args.host.now) (g.H.Host.state c.open_adopted.new.host) (g.H.Host.state c.barrier.new.self) (c.in-Ok.ensures.brought (c.barrier.ensures.silent.honest h) stopped) c.barrier.ensures.does)

pub returns-in-Ok-barrier-clause-taken_up : goal.returns-in-Ok-barrier-clause-taken_up
returns-in-Ok-barrier-clause-taken_up g c = λ h. taken_behind _ _ _ _ _ _ (barrier_world _ _ _ c.barrier.ensures.does h) (c.in-Ok.ensures.taken_up (c.barrier.ensures.silent.honest h))
