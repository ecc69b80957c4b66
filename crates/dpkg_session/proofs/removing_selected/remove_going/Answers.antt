use Rattle.unit_reports.specs.Held.{held_by}
use Rattle.removal_run.specs.Extents.{removing}
use Rattle.removal_run.specs.Selected.{selected_names}
use Rattle.removal_run.specs.declared.extents.Extents.TheVariants.{Selected}
use Rattle.dpkg_session.proofs.Removes.{since_none_removed}
use Rattle.dpkg_session.proofs.removing_selected.remove_going.Goals as goal

pub returns-in-Err-clause-any_moment : goal.returns-in-Err-clause-any_moment
returns-in-Err-clause-any_moment g c = since_none_removed (selected_names c.args.administration.now.database.records) (removing Selected c.args.ignore_depends) (held_by c.args.administration.now c.args.diversions.now) (g.H.Host.state c.args.host.now)
