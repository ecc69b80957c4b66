use Rattle.std.proofs.Common.{◌≡◌, ◌+◌, drop}
use Rattle.std.specs.Prelude.{nat_lt}
use Rattle.std.specs.List.{prefix_len}
use Rattle.status_records.specs.Order.{rank}
use Rattle.status_records.proofs.order.count_before.Given as goal

abbrev pub invariant-loop-i : goal.invariant-loop-i
invariant-loop-i l = prefix_len (λ f. nat_lt (rank f) l.place) l.fields ≡ l.i + prefix_len (λ f. nat_lt (rank f) l.place) (drop l.i l.fields)
