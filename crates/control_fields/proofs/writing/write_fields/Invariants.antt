use Rattle.std.proofs.Common.{◌≡◌, ◌++◌, map}
use Rattle.control_fields.specs.Spelling.{spell}
use Rattle.control_fields.proofs.writing.write_fields.Given as goal

abbrev pub invariant-loop-field : goal.invariant-loop-field
invariant-loop-field l = l.out.items ≡ l.fn.out.items ++ spell (map (λ b. b.now) l.yielded)
