use Rattle.package_files.proofs.BackLists.{written_later}
use Rattle.package_files.proofs.laws.written_files_stay.Goals as goal

pub returns : goal.returns
returns c = written_later
