use Rattle.std.proofs.Common.{refl}
use Rattle.status_records.proofs.SameRecords.{same_entry}
use Rattle.unpack_plan.proofs.yielded.moved_entry.Goals as goal

pub returns : goal.returns
returns c = same_entry _ _ c.in_ok-copy.ensures refl refl refl
