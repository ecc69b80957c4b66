use Rattle.std.proofs.Common.{inl, refl, sym, subst}
use Rattle.host_core.specs.World.{World, IsLoose, put}
use Rattle.host_core.specs.Host.{Since}
use Rattle.host_core.proofs.Barriers.{barrier_world, on_disk}
use Rattle.host_core.proofs.Moments.{since_barrier, since_then}
use Rattle.info_format.proofs.Formats.{disk_behind, left_barrier, moments_between, since_left_from}
use Rattle.info_format.proofs.bringing.leave_between.Goals as goal

pub returns-in_err-barrier-clause-any_moment : goal.returns-in_err-barrier-clause-any_moment
returns-in_err-barrier-clause-any_moment g c = since_barrier _ c.barrier.result _ _ c.barrier.ensures.does (λ h. inl refl)

pub leave_format-requires-clause-there : goal.leave_format-requires-clause-there
leave_format-requires-clause-there g c = λ h. subst (λ (w : World). IsLoose (w c.args.format.now)) (sym c.in_ok-barrier.ensures.does.world) (c.requires.there (c.barrier.ensures.silent.honest h))

pub leave_format-requires-clause-disk : goal.leave_format-requires-clause-disk
leave_format-requires-clause-disk g c = on_disk _ _ c.in_ok-barrier.ensures.does

pub returns-in_err-leave_format-clause-any_moment : goal.returns-in_err-leave_format-clause-any_moment
returns-in_err-leave_format-clause-any_moment g c = moments_between c.args.format.now _ _ _ c.in_ok-barrier.ensures.does c.leave_format.ensures.any_moment

pub returns-clause-left : goal.returns-clause-left
returns-clause-left g c = λ h. left_barrier c.barrier-2.result c.args.format.now _ _ _ _ c.in_ok-barrier.ensures.does.world (c.in_ok-leave_format.ensures.left (c.barrier-2.ensures.silent.honest h)) c.barrier-2.ensures.does

pub returns-clause-any_moment : goal.returns-clause-any_moment
returns-clause-any_moment g c =
    let first = moments_between c.args.format.now _ _ _ c.in_ok-barrier.ensures.does c.leave_format.ensures.any_moment in
    since_left_from c.barrier-2.result c.args.format.now _ _ _ first c.barrier-2.ensures.silent.honest c.barrier-2.ensures.does

pub returns-clause-disk : goal.returns-clause-disk
returns-clause-disk g c = disk_behind c.barrier-2.result _ _ c.barrier-2.ensures.does
