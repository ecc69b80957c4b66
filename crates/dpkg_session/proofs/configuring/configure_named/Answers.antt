use Rattle.dpkg_session.proofs.Configures.{not_begun, still_moments}
use Rattle.dpkg_session.proofs.configuring.configure_named.Goals as goal

pub configure_packages-report-requires-clause-open : goal.configure_packages-report-requires-clause-open
configure_packages-report-requires-clause-open g c = record { noting = c.requires.open.noting; listing = c.requires.open.listing; kept = c.requires.open.kept }

pub returns-in-Ok-clause-open : goal.returns-in-Ok-clause-open
returns-in-Ok-clause-open g c = λ none.
    let is = c.configure_packages-report.ensures.open none in
    record { noting = is.noting; listing = is.listing; kept = is.kept }

pub returns-in-Err-clause-part : goal.returns-in-Err-clause-part
returns-in-Err-clause-part g c = not_begun _ c.args.options _ (g.H.Host.state c.args.host.now) c.no_memory.result c.no_memory.ensures.broken c.no_memory.ensures.some

pub returns-in-Err-clause-any_moment : goal.returns-in-Err-clause-any_moment
returns-in-Err-clause-any_moment g c = still_moments _ c.args.options _ (g.H.Host.state c.args.host.now)
