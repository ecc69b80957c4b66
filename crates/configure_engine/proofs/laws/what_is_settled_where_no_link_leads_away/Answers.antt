use Rattle.configure_engine.proofs.Unlinked.{as_listed}
use Rattle.configure_engine.proofs.laws.what_is_settled_where_no_link_leads_away.Goals as goal

pub returns : goal.returns
returns c = as_listed
