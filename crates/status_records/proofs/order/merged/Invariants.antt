use Rattle.std.proofs.Common.{◌≡◌, ◌++◌}
use Rattle.status_records.specs.Order.{merged}
use Rattle.status_records.proofs.order.merged.Given as goal

abbrev pub invariant-loop-field : goal.invariant-loop-field
invariant-loop-field l = l.paragraph ++ merged l.left l.field-iterator ≡ merged l.own l.others
