use Rattle.std.proofs.Common.{◌≡◌, ◌+◌, drop}
use Rattle.std.specs.List.{position_or_len}
use Rattle.std.specs.Str.{bytes_eq}
use Rattle.control_fields.specs.Names.{lower}
use Rattle.status_records.proofs.order.place_of.Given as goal

abbrev pub invariant-loop-i : goal.invariant-loop-i
invariant-loop-i l = position_or_len (λ n. bytes_eq (lower l.name) n.now) l.names ≡ l.i + position_or_len (λ n. bytes_eq (lower l.name) n.now) (drop l.i l.names)
