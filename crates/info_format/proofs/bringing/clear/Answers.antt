use Rattle.host_core.proofs.Barriers.{on_disk}
use Rattle.info_format.proofs.Formats.{moments_barrier, taken_behind, taking_barrier}
use Rattle.info_format.proofs.bringing.clear.Goals as goal

pub returns-in_err-barrier-clause-any_moment : goal.returns-in_err-barrier-clause-any_moment
returns-in_err-barrier-clause-any_moment g c = moments_barrier c.args.pairs.now c.barrier.result _ _ c.barrier.ensures.does

pub take_all-requires-clause-disk : goal.take_all-requires-clause-disk
take_all-requires-clause-disk g c = on_disk _ _ c.in_ok-barrier.ensures.does

pub returns-clause-taken : goal.returns-clause-taken
returns-clause-taken g c = λ h. taken_behind c.args.pairs.now c.take_all.result _ _ _ c.in_ok-barrier.ensures.does.world (c.take_all.ensures.taken h)

pub returns-clause-any_moment : goal.returns-clause-any_moment
returns-clause-any_moment g c = taking_barrier c.args.pairs.now _ _ _ c.in_ok-barrier.ensures.does c.take_all.ensures.any_moment
