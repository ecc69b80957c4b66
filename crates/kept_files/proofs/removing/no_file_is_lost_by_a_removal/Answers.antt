use Rattle.kept_files.proofs.Removals.{removal_leaves}
use Rattle.kept_files.proofs.removing.no_file_is_lost_by_a_removal.Goals as goal

pub returns : goal.returns
returns c = λ given removable old new q others packaged moments honest. removal_leaves given removable old new q others packaged moments honest
