use Rattle.name_sets.specs.Names.{each_once}
use Rattle.configure_run.specs.Early.{early_refusals}
use Rattle.configure_run.proofs.Refusals.{none_refused, on_err}
use Rattle.configure_run.proofs.run.refuse_first.Goals as goal

pub returns-in_err-list-clause-err : goal.returns-in_err-list-clause-err
returns-in_err-list-clause-err g c = on_err c.from_residual.result _ (none_refused (early_refusals c.args.database.now.records (each_once c.args.names.now)) c.args.units.now.items c.requires.none)
