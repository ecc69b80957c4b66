use Rattle.std.proofs.Common.{◌≡◌, ◌++◌, take}
use Rattle.status_records.proofs.order.add_all.Given as goal

abbrev pub invariant-loop-field : goal.invariant-loop-field
invariant-loop-field l = l.paragraph ≡ l.fn.paragraph ++ take l.field-index l.fields
