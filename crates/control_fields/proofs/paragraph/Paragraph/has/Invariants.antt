use Rattle.std.proofs.Common.{◌≡◌, ◌++◌, map, false}
use Rattle.control_fields.specs.Names.{stands}
use Rattle.control_fields.proofs.paragraph.Paragraph.has.Given as goal

abbrev pub invariant-loop-field : goal.invariant-loop-field
invariant-loop-field l = (stands l.name (map (λ b. b.now) l.yielded) ≡ false) × (l.self ≡ map (λ b. b.now) l.yielded ++ l.field-iterator)
