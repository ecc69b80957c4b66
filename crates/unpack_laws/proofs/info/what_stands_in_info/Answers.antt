use Rattle.unpack_laws.proofs.OtherLists.{theirs_unit}
use Rattle.unpack_laws.proofs.OwnMembers.{member_unit}
use Rattle.unpack_laws.proofs.info.what_stands_in_info.Goals as goal

pub returns-clause-lists : goal.returns-clause-lists
returns-clause-lists c = λ given places old now so_far q other amid. theirs_unit given places old now so_far q other amid

pub returns-clause-members : goal.returns-clause-members
returns-clause-members c = λ given places old now so_far member named amid. member_unit given places old now so_far member named amid
