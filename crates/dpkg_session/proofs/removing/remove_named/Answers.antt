use Rattle.unit_reports.specs.Held.{held_by}
use Rattle.dpkg_session.proofs.Removes.{since_none_removed}
use Rattle.dpkg_session.proofs.removing.remove_named.Goals as goal

pub remove_packages-report-requires-clause-open : goal.remove_packages-report-requires-clause-open
remove_packages-report-requires-clause-open g c = record { noting = c.requires.open.noting; listing = c.requires.open.listing; kept = c.requires.open.kept }

pub returns-in-Ok-clause-open : goal.returns-in-Ok-clause-open
returns-in-Ok-clause-open g c = λ none.
    let is = c.remove_packages-report.ensures.open none in
    record { noting = is.noting; listing = is.listing; kept = is.kept }

pub returns-in-Err-clause-any_moment : goal.returns-in-Err-clause-any_moment
returns-in-Err-clause-any_moment g c = since_none_removed c.args.names.items c.args.options (held_by c.args.administration.now c.args.diversions.now) (g.H.Host.state c.args.host.now)
