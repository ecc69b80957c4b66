use Rattle.std.proofs.Common.{◌≡◌, flat_map, string_bytes, take}
use Rattle.json_lines.specs.Lines.{line_text}
use Rattle.json_lines.proofs.lines.each_line.Given as goal

abbrev pub invariant-loop-line : goal.invariant-loop-line
invariant-loop-line l = string_bytes l.text ≡ flat_map (λ line. line_text l.kind line) (take l.line-index l.lines)
