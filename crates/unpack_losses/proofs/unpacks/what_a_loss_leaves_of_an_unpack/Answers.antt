use Rattle.unpack_losses.proofs.Targets.{beside_left, files_left, moment_left}
use Rattle.unpack_losses.proofs.unpacks.what_a_loss_leaves_of_an_unpack.Goals as goal

pub returns-clause-moment : goal.returns-clause-moment
returns-clause-moment c = moment_left

pub returns-clause-files : goal.returns-clause-files
returns-clause-files c = λ kept given places begun old new left h settled scripts since loses. files_left kept given places begun old new left h settled scripts since loses c.what_stands_of_the_package.ensures.files

pub returns-clause-beside : goal.returns-clause-beside
returns-clause-beside c = λ kept given places begun old new left h settled scripts since loses. beside_left kept given places begun old new left h settled scripts since loses c.what_stands_where_no_work_comes.ensures.scripts
