use Rattle.unpack_commit.proofs.StillReady.{lists_ready_amid, lists_still_ready, members_ready_amid, members_still_ready}
use Rattle.unpack_commit.proofs.laws.a_commit_leaves_packages_ready.Goals as goal

pub returns-clause-members : goal.returns-clause-members
returns-clause-members c = λ change entries lists after old new owner spares elsewhere has. members_still_ready change entries lists old spares elsewhere after new has owner

pub returns-clause-lists : goal.returns-clause-lists
returns-clause-lists c = λ change entries lists after old new name spares elsewhere has. lists_still_ready change entries lists old spares elsewhere after new has name

pub returns-clause-members_amid : goal.returns-clause-members_amid
returns-clause-members_amid c = λ change entries lists records before old now owner spares elsewhere may. members_ready_amid change entries lists old spares elsewhere records before now may owner

pub returns-clause-lists_amid : goal.returns-clause-lists_amid
returns-clause-lists_amid c = λ change entries lists records before old now name spares elsewhere may. lists_ready_amid change entries lists old spares elsewhere records before now may name
