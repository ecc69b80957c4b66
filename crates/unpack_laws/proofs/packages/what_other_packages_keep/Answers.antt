use Rattle.unpack_laws.proofs.OtherPackages.{diversions_kept, list_kept, member_kept}
use Rattle.unpack_laws.proofs.packages.what_other_packages_keep.Goals as goal

pub returns-clause-lists : goal.returns-clause-lists
returns-clause-lists c = λ given places old now so_far q other keeps amid. list_kept given places old now so_far q other keeps amid

pub returns-clause-members : goal.returns-clause-members
returns-clause-members c = λ given places old now so_far q member other is amid. member_kept given places old now so_far q member other is amid

pub returns-clause-diversions : goal.returns-clause-diversions
returns-clause-diversions c = λ given places old now so_far amid. diversions_kept given places old now so_far amid
