use Rattle.conffiles.proofs.Rows.{one_row}
use Rattle.conffiles.proofs.decisions.each_case_has_one_row.Goals as goal

pub returns : goal.returns
returns c = one_row
