use Rattle.std.proofs.Common.{◌≡◌, take}
use Rattle.unpack_rows.specs.ForwardRows.{records_of}
use Rattle.unpack_plan.proofs.rows.records_of.Given as goal

abbrev pub invariant-loop-other : goal.invariant-loop-other
invariant-loop-other l = l.records.items ≡ records_of (take l.other-index l.others)
