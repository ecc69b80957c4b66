use Rattle.unpack_commit.proofs.Left.{committed_keeps, committing_keeps, loser_list, members_stored, other_list, own_list}
use Rattle.unpack_commit.proofs.laws.what_a_commit_leaves.Goals as goal

pub returns-clause-rest : goal.returns-clause-rest
returns-clause-rest c = λ change entries lists after old new q has un. committed_keeps change entries lists old after new q has un

pub returns-clause-any_moment : goal.returns-clause-any_moment
returns-clause-any_moment c = λ change entries lists records before old now q may un. committing_keeps change entries lists old records before now q may un

pub returns-clause-own_list : goal.returns-clause-own_list
returns-clause-own_list c = λ change entries lists after old new elsewhere none has. own_list change entries lists old after new elsewhere has none

pub returns-clause-losers : goal.returns-clause-losers
returns-clause-losers c = λ change entries lists after old new name elsewhere there has. loser_list change entries lists old after new elsewhere has name there

pub returns-clause-other_lists : goal.returns-clause-other_lists
returns-clause-other_lists c = λ change entries lists after old new name spares elsewhere other none has. other_list change entries lists old after new elsewhere has name spares other none

pub returns-clause-members : goal.returns-clause-members
returns-clause-members c = λ change entries lists after old new elsewhere has. members_stored change entries lists old after new elsewhere has

pub returns-clause-records : goal.returns-clause-records
returns-clause-records c = λ change entries lists after old new has. has.noted.has
