use Rattle.dpkg_session.proofs.Histories.{stands_outside, stands_history}
use Rattle.dpkg_session.proofs.laws.history_stands.Goals as goal

pub returns-clause-outside : goal.returns-clause-outside
returns-clause-outside c = stands_outside

pub returns-clause-history : goal.returns-clause-history
returns-clause-history c = stands_history
