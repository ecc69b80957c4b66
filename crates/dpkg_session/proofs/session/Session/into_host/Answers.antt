use Rattle.std.proofs.Common.{rules}
use Rattle.dpkg_session.proofs.session.Session.into_host.Goals as goal

pub returns : goal.returns
returns g c = search rules
