use Rattle.unpack_laws.proofs.OtherPackages.{passed_by_scripts, passed_kept}
use Rattle.unpack_laws.proofs.paths.what_stands_where_no_work_comes.Goals as goal

pub returns-clause-scripts : goal.returns-clause-scripts
returns-clause-scripts c = λ given places old now so_far q passed amid. passed_by_scripts given places old now so_far q passed amid

pub returns-clause-kept : goal.returns-clause-kept
returns-clause-kept c = λ given places old now so_far q passed is amid. passed_kept given places old now so_far q passed is amid
