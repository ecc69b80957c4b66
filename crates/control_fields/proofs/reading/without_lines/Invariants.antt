use Rattle.std.proofs.Common.{◌≡◌}
use Rattle.control_fields.specs.Grammar.{paragraphs_of}
use Rattle.control_fields.proofs.reading.without_lines.Given as goal

abbrev pub invariant-loop-one : goal.invariant-loop-one
invariant-loop-one l = l.paragraphs.items ≡ paragraphs_of l.yielded
