use Rattle.file_removal.proofs.Clears.{retired_finished}
use Rattle.file_removal.proofs.laws.what_a_clearing_leaves.Goals as goal

pub returns-clause-retired : goal.returns-clause-retired
returns-clause-retired c = λ names old now new amid more. retired_finished names old now new amid more
