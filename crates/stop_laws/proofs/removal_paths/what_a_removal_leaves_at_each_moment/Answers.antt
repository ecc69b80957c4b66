use Rattle.stop_laws.proofs.Removals.{removal_diversions, removal_left, removal_list, removal_member, removal_other_list, removal_other_member}
use Rattle.stop_laws.proofs.removal_paths.what_a_removal_leaves_at_each_moment.Goals as goal

pub returns-clause-lists : goal.returns-clause-lists
returns-clause-lists c = λ given removable old now so_far q other amid. removal_other_list given removable old now so_far q other amid

pub returns-clause-members : goal.returns-clause-members
returns-clause-members c = λ given removable old now so_far q member other is amid. removal_other_member given removable old now so_far q member other is amid

pub returns-clause-diversions : goal.returns-clause-diversions
returns-clause-diversions c = λ given removable old now so_far amid. removal_diversions given removable old now so_far amid

pub returns-clause-paths : goal.returns-clause-paths
returns-clause-paths c = λ given removable old now so_far q out amid. removal_left given removable old now so_far q out amid

pub returns-clause-own_list : goal.returns-clause-own_list
returns-clause-own_list c = λ given removable old now so_far amid. removal_list given removable old now so_far amid

pub returns-clause-own_members : goal.returns-clause-own_members
returns-clause-own_members c = λ given removable old now so_far member is amid. removal_member given removable old now so_far member is amid
