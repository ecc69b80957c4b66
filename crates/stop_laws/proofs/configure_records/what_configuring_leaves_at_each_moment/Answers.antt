use Rattle.stop_laws.proofs.Configures.{configure_diversions, configure_list, configure_member, configure_other_list, configure_paths, configure_records as records_then}
use Rattle.stop_laws.proofs.configure_records.what_configuring_leaves_at_each_moment.Goals as goal

pub returns-clause-records : goal.returns-clause-records
returns-clause-records c = λ given r d old now so_far found order same amid. records_then given r found old now so_far d order same amid

pub returns-clause-lists : goal.returns-clause-lists
returns-clause-lists c = λ given old now so_far q other amid. configure_other_list given old now so_far q other amid

pub returns-clause-members : goal.returns-clause-members
returns-clause-members c = λ given old now so_far q member is amid. configure_member given old now so_far q member is amid

pub returns-clause-diversions : goal.returns-clause-diversions
returns-clause-diversions c = λ given old now so_far amid. configure_diversions given old now so_far amid

pub returns-clause-own_list : goal.returns-clause-own_list
returns-clause-own_list c = λ given r old now so_far found amid. configure_list given r found old now so_far amid

pub returns-clause-paths : goal.returns-clause-paths
returns-clause-paths c = λ given r old now so_far q found out none amid. configure_paths given r found old now so_far q out none amid
