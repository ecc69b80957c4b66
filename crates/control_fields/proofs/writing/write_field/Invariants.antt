use Rattle.std.proofs.Common.{◌≡◌, ◌++◌, ◌∷◌, [], take}
use Rattle.control_fields.specs.Spelling.{first_line, spell_more}
use Rattle.control_fields.proofs.writing.write_field.Given as goal

abbrev pub invariant-loop-line : goal.invariant-loop-line
invariant-loop-line l = l.out.items ≡ (l.fn.out.items ++ (first_line l.field ++ 10 ∷ [])) ++ spell_more (take l.line-index l.field.more)
