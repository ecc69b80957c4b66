use Rattle.unpack_commit.proofs.Opening.{opens_amid, records_amid}
use Rattle.unpack_commit.proofs.laws.a_commit_can_be_opened_amid.Goals as goal

pub returns-clause-records : goal.returns-clause-records
returns-clause-records c = λ change entries lists records before old now may. records_amid change entries lists records before old now may

pub returns-clause-opens : goal.returns-clause-opens
returns-clause-opens c = λ change entries lists records before old now may. opens_amid change entries lists records before old now may
