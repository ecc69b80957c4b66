use Rattle.unpack_commit.proofs.Loose.{info_loose, info_loose_amid}
use Rattle.unpack_commit.proofs.laws.a_commit_leaves_info_loose.Goals as goal

pub returns-clause-loose : goal.returns-clause-loose
returns-clause-loose c = λ change entries lists after old new has. info_loose change entries lists old after new has

pub returns-clause-loose_amid : goal.returns-clause-loose_amid
returns-clause-loose_amid c = λ change entries lists records before old now may. info_loose_amid change entries lists old records before now may
