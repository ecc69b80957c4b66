use Rattle.std.proofs.Common.{◌≡◌}
use Rattle.control_fields.specs.Names.{line_of_field}
use Rattle.control_fields.proofs.located.Located.line_of.Given as goal

abbrev pub invariant-loop-field : goal.invariant-loop-field
invariant-loop-field l = line_of_field l.fn.self.line l.fn.self.paragraph l.fn.index ≡ line_of_field l.line l.field-iterator l.left
