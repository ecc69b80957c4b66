use Rattle.std.proofs.Common.{◌∙◌}
use Rattle.host_core.specs.World.{Take}
use Rattle.host_core.proofs.Barriers.{barrier_world, since_to_disk}
use Rattle.diversions.proofs.Turning.{always, disk_behind, since_one}
use Rattle.diversions.proofs.moves.take_name.Goals as goal

pub returns-in_err-remove-clause-any_moment : goal.returns-in_err-remove-clause-any_moment
returns-in_err-remove-clause-any_moment g c = since_one c.remove.result (Take c.args.from.now) _ _ (λ t part. part) c.remove.ensures.does

pub returns-clause-taken : goal.returns-clause-taken
returns-clause-taken g c = λ h. always c.barrier.result (barrier_world c.barrier.result _ _ c.barrier.ensures.does h ∙ c.in_ok-remove.ensures.does.world)

pub returns-clause-any_moment : goal.returns-clause-any_moment
returns-clause-any_moment g c = since_to_disk _ c.barrier.result _ _ _ (λ x quiet w none is. is) (since_one c.remove.result (Take c.args.from.now) _ _ (λ t part. part) c.remove.ensures.does) c.barrier.ensures.does

pub returns-clause-disk : goal.returns-clause-disk
returns-clause-disk g c = disk_behind c.barrier.result _ _ c.barrier.ensures.does
