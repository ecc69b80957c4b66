use Rattle.std.proofs.Common.{◌≡◌, ◌++◌}
use Rattle.unpack_rows.specs.ForwardRows.{others_rows}
use Rattle.unpack_rows.proofs.rows.push_others.Given as goal

abbrev pub invariant-loop-other : goal.invariant-loop-other
invariant-loop-other l = (l.rows.items ≡ l.fn.rows.items ++ others_rows l.yielded) × (l.fn.others.items ≡ l.yielded ++ l.other-iterator.rest.items)
