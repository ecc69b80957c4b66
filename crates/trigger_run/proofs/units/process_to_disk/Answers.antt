use Rattle.unit_reports.specs.Held.{held_by}
use Rattle.trigger_run.proofs.Processings.{since_processed, since_processing}
use Rattle.trigger_run.proofs.units.process_to_disk.Goals as goal

pub returns-in-Ok-barrier-clause-any_moment : goal.returns-in-Ok-barrier-clause-any_moment
returns-in-Ok-barrier-clause-any_moment g c = since_processed c.args.name.now (held_by c.args.administration.now c.args.diversions.now) _ _ _ _ c.process.ensures.any_moment c.barrier.ensures.does

pub returns-in-Err-barrier-clause-any_moment : goal.returns-in-Err-barrier-clause-any_moment
returns-in-Err-barrier-clause-any_moment g c = since_processed c.args.name.now (held_by c.args.administration.now c.args.diversions.now) _ _ _ _ c.process.ensures.any_moment c.barrier.ensures.does

pub returns-in-Err-clause-any_moment : goal.returns-in-Err-clause-any_moment
returns-in-Err-clause-any_moment g c = since_processing c.args.name.now (held_by c.args.administration.now c.args.diversions.now) _ _ c.process.ensures.any_moment
