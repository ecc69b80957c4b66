use Rattle.dpkg_session.proofs.Barriers.{called_behind, either_still, failed_behind, goes_behind, order_behind, unpacked_to_disk}
use Rattle.host_core.proofs.Moments.{since_barrier}
use Rattle.dpkg_session.proofs.unpacking.unpack_to_disk.Goals as goal
use Rattle.host_core.proofs.Barriers.{since_to_disk, on_disk}
use Rattle.dpkg_session.proofs.Denied.{denied_behind}

pub returns-in-Ok-barrier-clause-unit : goal.returns-in-Ok-barrier-clause-unit
returns-in-Ok-barrier-clause-unit g c =
    unpacked_to_disk _ _ _ _ _ _ _ _ _ _ c.in-Ok.ensures.unit c.in-Ok-barrier.ensures.does c.barrier.ensures.silent (since_barrier _ _ _ _ c.barrier.ensures.does (λ h. tt))

pub returns-in-Ok-barrier-clause-cause : goal.returns-in-Ok-barrier-clause-cause
returns-in-Ok-barrier-clause-cause g c = failed_behind _ _ _ _ _ c.in-Ok.ensures.cause c.barrier.ensures.silent

pub returns-in-Ok-barrier-clause-table : goal.returns-in-Ok-barrier-clause-table
returns-in-Ok-barrier-clause-table g c = goes_behind _ _ _ _ _ c.in-Ok.ensures.table c.barrier.ensures.silent (since_barrier _ _ _ _ c.barrier.ensures.does (λ h. tt))

pub returns-in-Ok-barrier-clause-order : goal.returns-in-Ok-barrier-clause-order
returns-in-Ok-barrier-clause-order g c = order_behind _ _ _ _ c.in-Ok-barrier.ensures.does c.in-Ok.ensures.order

pub returns-in-Ok-barrier-clause-on_disk : goal.returns-in-Ok-barrier-clause-on_disk
returns-in-Ok-barrier-clause-on_disk g c = on_disk _ _ c.in-Ok-barrier.ensures.does

pub returns-in-Ok-barrier-clause-told : goal.returns-in-Ok-barrier-clause-told
returns-in-Ok-barrier-clause-told g c = called_behind _ _ _ _ _ _ c.unpack.ensures.told c.barrier.ensures.silent

pub returns-in-Err-barrier-clause-told : goal.returns-in-Err-barrier-clause-told
returns-in-Err-barrier-clause-told g c = called_behind _ _ _ _ _ _ c.unpack.ensures.told c.barrier.ensures.silent

pub returns-in-Ok-barrier-clause-any_moment : goal.returns-in-Ok-barrier-clause-any_moment
returns-in-Ok-barrier-clause-any_moment g c = since_to_disk _ _ _ _ _ (λ x quiet w none amid. either_still _ _ _ _ x quiet w none amid) c.unpack.ensures.any_moment c.barrier.ensures.does

pub returns-in-Err-barrier-clause-any_moment : goal.returns-in-Err-barrier-clause-any_moment
returns-in-Err-barrier-clause-any_moment g c = since_to_disk _ _ _ _ _ (λ x quiet w none amid. either_still _ _ _ _ x quiet w none amid) c.unpack.ensures.any_moment c.barrier.ensures.does

pub returns-in-Ok-barrier-clause-denied : goal.returns-in-Ok-barrier-clause-denied
returns-in-Ok-barrier-clause-denied g c = denied_behind _ _ _ _ _ c.in-Ok.ensures.cause c.in-Ok.ensures.denied c.in-Ok.ensures.counts c.in-Ok-barrier.ensures.counts
