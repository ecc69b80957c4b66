use Rattle.std.proofs.Common.{subst, sym}
use Rattle.removal_engine.specs.Units.{IsRemovable}
use Rattle.removal_engine.specs.declared.extent.Extent.{Extent}
use Rattle.unit_reports.specs.Held.{held_by}
use Rattle.removal_run.proofs.Removable.{is_removable}
use Rattle.removal_run.proofs.Removals.{since_removed, since_removing}
use Rattle.removal_run.proofs.units.remove_to_disk.Goals as goal

pub remove-requires-clause-removable : goal.remove-requires-clause-removable
remove-requires-clause-removable g c =
    subst (λ (e : Extent). IsRemovable e c.args.administration.now.database.records c.args.name.now) (sym c.extent_of-extent.ensures) (is_removable c.args.purge c.args.administration.now.database.records c.args.name.now c.requires.accepted)

pub returns-in-Ok-barrier-clause-any_moment : goal.returns-in-Ok-barrier-clause-any_moment
returns-in-Ok-barrier-clause-any_moment g c = since_removed c.args.purge c.args.name.now (held_by c.args.administration.now c.args.diversions.now) _ c.extent_of-extent.ensures _ _ _ _ c.remove.ensures.any_moment c.barrier.ensures.does

pub returns-in-Err-barrier-clause-any_moment : goal.returns-in-Err-barrier-clause-any_moment
returns-in-Err-barrier-clause-any_moment g c = since_removed c.args.purge c.args.name.now (held_by c.args.administration.now c.args.diversions.now) _ c.extent_of-extent.ensures _ _ _ _ c.remove.ensures.any_moment c.barrier.ensures.does

pub returns-in-Err-clause-any_moment : goal.returns-in-Err-clause-any_moment
returns-in-Err-clause-any_moment g c = since_removing c.args.purge c.args.name.now (held_by c.args.administration.now c.args.diversions.now) _ c.extent_of-extent.ensures _ _ c.remove.ensures.any_moment
