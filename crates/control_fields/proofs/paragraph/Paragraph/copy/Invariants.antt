use Rattle.std.proofs.Common.{◌≡◌, ◌++◌, map}
use Rattle.control_fields.proofs.paragraph.Paragraph.copy.Given as goal

abbrev pub invariant-loop-field : goal.invariant-loop-field
invariant-loop-field l = (l.copied ≡ map (λ b. b.now) l.yielded) × (l.self ≡ map (λ b. b.now) l.yielded ++ l.field-iterator)
