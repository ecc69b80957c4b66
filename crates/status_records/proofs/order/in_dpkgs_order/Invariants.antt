use Rattle.std.proofs.Common.{◌≡◌, ◌++◌, map}
use Rattle.status_records.specs.Order.{in_dpkgs_order}
use Rattle.status_records.proofs.order.in_dpkgs_order.Given as goal

abbrev pub invariant-loop-field : goal.invariant-loop-field
invariant-loop-field l = (l.sorted.items ≡ in_dpkgs_order (map (λ b. b.now) l.yielded)) × (l.fields ≡ map (λ b. b.now) l.yielded ++ l.field-iterator)
