use Rattle.unpack_commit.proofs.Left.{losing_differs}
use Rattle.unpack_commit.proofs.laws.a_losing_record_changes.Goals as goal

pub returns : goal.returns
returns c = losing_differs
