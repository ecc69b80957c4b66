use Rattle.std.proofs.Common.{◌≡◌, ◌++◌, map, take}
use Rattle.unpack_rows.specs.declared.kinds.RowKind.TheVariants.{Other}
use Rattle.unpack_rows.specs.ForwardRows.{records_of}
use Rattle.unpack_rows.proofs.kinds.push_others.Given as goal

abbrev pub invariant-loop-other : goal.invariant-loop-other
invariant-loop-other l = l.kinds.items ≡ l.fn.kinds.items ++ map (λ r. Other r) (records_of (take l.other-index l.others))
