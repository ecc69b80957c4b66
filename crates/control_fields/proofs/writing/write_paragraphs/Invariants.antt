use Rattle.std.proofs.Common.{◌≡◌, take}
use Rattle.control_fields.specs.Spelling.{spell_all}
use Rattle.control_fields.proofs.writing.write_paragraphs.Given as goal

abbrev pub invariant-loop-i : goal.invariant-loop-i
invariant-loop-i l = l.out.items ≡ spell_all (take l.i l.paragraphs)
