use Rattle.stop_laws.proofs.Disappearances.{diversions_then, list_then, member_then, owned_then, path_then, records_then}
use Rattle.stop_laws.proofs.disappearing.what_a_disappearance_leaves_at_each_moment.Goals as goal

pub returns-clause-records : goal.returns-clause-records
returns-clause-records c = λ incoming version ways losing h s so_far now order amid. records_then incoming version ways losing h s so_far now order amid

pub returns-clause-lists : goal.returns-clause-lists
returns-clause-lists c = λ incoming version ways losing h s so_far now q other amid. list_then incoming version ways losing h s so_far now q other amid

pub returns-clause-members : goal.returns-clause-members
returns-clause-members c = λ incoming version ways losing h s so_far now q member other is amid. member_then incoming version ways losing h s so_far now q member other is amid

pub returns-clause-diversions : goal.returns-clause-diversions
returns-clause-diversions c = λ incoming version ways losing h s so_far now amid. diversions_then incoming version ways losing h s so_far now amid

pub returns-clause-paths : goal.returns-clause-paths
returns-clause-paths c = λ incoming version ways losing h s so_far now q out amid. path_then incoming version ways losing h s so_far now q out amid

pub returns-clause-owned : goal.returns-clause-owned
returns-clause-owned c = λ incoming version ways losing h s so_far now q out owned amid. owned_then incoming version ways losing h s so_far now q out owned amid
