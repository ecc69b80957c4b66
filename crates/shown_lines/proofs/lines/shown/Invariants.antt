use Rattle.std.proofs.Common.{◌≡◌, ◌++◌, string_bytes}
use Rattle.std.specs.Str.Iter.{chars_rest}
use Rattle.shown_lines.specs.Lines.{shown}
use Rattle.shown_lines.proofs.lines.shown.Given as goal

abbrev pub invariant-loop-character : goal.invariant-loop-character
invariant-loop-character l = string_bytes l.all ++ shown (chars_rest l.character-iterator) ≡ shown l.text
