use Rattle.status_db.proofs.NotedWorlds.{records_on, kept_on}
use Rattle.status_db.proofs.laws.records_stand_at_their_places.Goals as goal

pub returns-clause-places : goal.returns-clause-places
returns-clause-places c = records_on

pub returns-clause-kept : goal.returns-clause-kept
returns-clause-kept c = kept_on
