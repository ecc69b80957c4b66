use Rattle.record_losses.proofs.Reading.{merging_left, noting_left}
use Rattle.record_losses.proofs.records.records_are_read_behind_a_loss.Goals as goal

pub returns-clause-merging : goal.returns-clause-merging
returns-clause-merging c = λ begun old new left records h settled scripts turns loses since. merging_left begun old new left h settled scripts turns loses records since

pub returns-clause-noting : goal.returns-clause-noting
returns-clause-noting c = λ begun old new left before after h settled scripts turns loses since. noting_left begun old new left h settled scripts turns loses before after since
