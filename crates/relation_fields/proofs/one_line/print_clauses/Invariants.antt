use Rattle.std.proofs.Common.{◌≡◌, take, string_bytes}
use Rattle.relation_fields.specs.OneLine.{print_clauses}
use Rattle.relation_fields.proofs.one_line.print_clauses.Given as goal

abbrev pub invariant-loop-i : goal.invariant-loop-i
invariant-loop-i l = string_bytes l.out ≡ print_clauses (take l.i l.clauses)
