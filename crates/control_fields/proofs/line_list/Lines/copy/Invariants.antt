use Rattle.std.proofs.Common.{◌≡◌, take}
use Rattle.control_fields.proofs.line_list.Lines.copy.Given as goal

abbrev pub invariant-loop-line : goal.invariant-loop-line
invariant-loop-line l = l.items.items ≡ take l.line-index l.self
