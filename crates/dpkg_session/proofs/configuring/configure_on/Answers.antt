use Rattle.dpkg_session.proofs.Configures.{not_begun, still_moments}
use Rattle.dpkg_session.proofs.configuring.configure_on.Goals as goal

pub returns-in-Err-clause-part : goal.returns-in-Err-clause-part
returns-in-Err-clause-part g c = not_begun _ c.args.options _ (g.H.Host.state c.args.host.now) c.no_memory.result c.no_memory.ensures.broken c.no_memory.ensures.some

pub returns-in-Err-clause-any_moment : goal.returns-in-Err-clause-any_moment
returns-in-Err-clause-any_moment g c = still_moments _ c.args.options _ (g.H.Host.state c.args.host.now)
