use Rattle.unpack_losses.proofs.Works.{back_left, written_left}
use Rattle.unpack_losses.proofs.files.no_file_is_left_in_part.Goals as goal

pub returns-clause-written : goal.returns-clause-written
returns-clause-written c = written_left

pub returns-clause-back : goal.returns-clause-back
returns-clause-back c = back_left
