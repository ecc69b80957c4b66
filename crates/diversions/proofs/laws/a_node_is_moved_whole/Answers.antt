use Rattle.diversions.proofs.Moving.{doubled_whole, moved_whole}
use Rattle.diversions.proofs.laws.a_node_is_moved_whole.Goals as goal

pub returns-clause-moved : goal.returns-clause-moved
returns-clause-moved c = moved_whole

pub returns-clause-doubled : goal.returns-clause-doubled
returns-clause-doubled c = doubled_whole
