use Rattle.std.proofs.Common.{◌∙◌}
use Rattle.host_core.specs.World.{Move}
use Rattle.host_core.proofs.Barriers.{barrier_world, since_to_disk}
use Rattle.host_core.proofs.Losses.{proper_synced}
use Rattle.diversions.proofs.Turning.{always, disk_behind, since_one}
use Rattle.diversions.proofs.moves.move_over.Goals as goal

pub rename-requires-clause-synced : goal.rename-requires-clause-synced
rename-requires-clause-synced g c = λ h. proper_synced _ _ (g.H.Host.settled c.args.host.now h) c.requires.proper

pub returns-in_err-rename-clause-any_moment : goal.returns-in_err-rename-clause-any_moment
returns-in_err-rename-clause-any_moment g c = since_one c.rename.result (Move c.args.from.now c.args.to.now) _ _ (λ t part. part) c.rename.ensures.does

pub returns-clause-moved : goal.returns-clause-moved
returns-clause-moved g c = λ h. always c.barrier.result (barrier_world c.barrier.result _ _ c.barrier.ensures.does h ∙ c.in_ok-rename.ensures.does.world)

pub returns-clause-any_moment : goal.returns-clause-any_moment
returns-clause-any_moment g c =
    since_to_disk _ c.barrier.result _ _ _ (λ x quiet w none is. is) (since_one c.rename.result (Move c.args.from.now c.args.to.now) _ _ (λ t part. part) c.rename.ensures.does) c.barrier.ensures.does

pub returns-clause-disk : goal.returns-clause-disk
returns-clause-disk g c = disk_behind c.barrier.result _ _ c.barrier.ensures.does
