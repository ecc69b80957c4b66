use Rattle.std.proofs.Common.{◌≡◌, ◌⊎◌, inl, inr, refl, None, Ok, ap, sym, subst, ◌∙◌}
use Rattle.host_core.specs.World.{World, IsLoose, put}
use Rattle.host_core.specs.Host.{Since}
use Rattle.host_core.proofs.Barriers.{barrier_world, on_disk}
use Rattle.host_core.proofs.Moments.{since_barrier, since_then, since_weaker, since_weaker_if}
use Rattle.host_core.proofs.WorldLaws.{put_other}
use Rattle.scattered_losses.specs.Scattered.{parent_of}
use Rattle.scattered_losses.proofs.TakingTurns.{quiet_on_disk, turns_by_moments, turns_on, turns_then}
use Rattle.diversions.proofs.Moving.{on_ok}
use Rattle.diversions.proofs.Turning.{barrier_same, later_by, later_then, put_alone}
use Rattle.diversions.proofs.moves.leave_name.Goals as goal

pub returns-in_err-barrier-clause-any_moment : goal.returns-in_err-barrier-clause-any_moment
returns-in_err-barrier-clause-any_moment g c = since_barrier _ c.barrier.result _ _ c.barrier.ensures.does (λ h. inl refl)

pub returns-in_err-barrier-clause-turns : goal.returns-in_err-barrier-clause-turns
returns-in_err-barrier-clause-turns g c = λ area begun later turns h. turns_on area begun _ _ h later (barrier_same area c.barrier.result _ _ c.barrier.ensures.does) turns

pub take_name-requires : goal.take_name-requires
take_name-requires g c = record { there = λ h. subst (λ (w : World). IsLoose (w c.args.from.now)) (sym c.in_ok-barrier.ensures.does.world) (c.requires.there (c.barrier.ensures.silent.honest h)) }

pub returns-clause-taken : goal.returns-clause-taken
returns-clause-taken g c = λ h. on_ok c.take_name.result (λ is. is ∙ ap (λ (w : World). put w c.args.from.now None) c.in_ok-barrier.ensures.does.world) (c.take_name.ensures.taken h)

pub returns-clause-any_moment : goal.returns-clause-any_moment
returns-clause-any_moment g c =
    let old = (g.H.Host.state c.args.host.now).world in
    since_then (λ so_far now. (now ≡ old) ⊎ (now ≡ put old c.args.from.now None)) _ _ _ (since_barrier (λ now. (now ≡ old) ⊎ (now ≡ put old c.args.from.now None)) c.barrier.result _ _ c.barrier.ensures.does (λ h. inl refl))
    (subst (λ v. Since (λ so_far now. (now ≡ v) ⊎ (now ≡ put v c.args.from.now None)) (g.H.Host.state c.barrier.new.self) (g.H.Host.state c.take_name.new.host)) c.in_ok-barrier.ensures.does.world c.take_name.ensures.any_moment)

pub returns-clause-turns : goal.returns-clause-turns
returns-clause-turns g c = λ area begun later turns h.
    let old = g.H.Host.state c.args.host.now in
    let mid = g.H.Host.state c.barrier.new.self in
    let new = g.H.Host.state c.take_name.new.host in
    let same = barrier_same area c.barrier.result old mid c.barrier.ensures.does in
    let since = since_weaker _ _ mid new (λ so_far w is. put_alone area c.args.from.now (λ v. put v c.args.from.now None) mid.world w (λ q away. put_other mid.world c.args.from.now q None away) is) c.take_name.ensures.any_moment in
    turns_then area begun mid new (later_then begun old mid later (later_by _ old mid same)) (later_by _ mid new since)
    (turns_on area begun old mid (c.take_name.ensures.silent.honest h) later same turns) (quiet_on_disk area begun mid (on_disk old mid c.in_ok-barrier.ensures.does)) (turns_by_moments area (parent_of c.args.from.now) mid new h since)
